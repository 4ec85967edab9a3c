-- Each part of an expression has fewer nodes.
use Rattle.std.specs.Prelude.{◌≤◌, ◌+◌, max, List, [], ◌∷◌}
use Rattle.std.proofs.Common.{arith}
use denote.Param.Weighed.{most}
use Rattle.filters.specs.declared.expression.Node.{Node}
use Rattle.filters.specs.declared.expression.Node.TheVariants.{Compare as CompareNode, Under as UnderNode, Negation as NegationNode, All as AllNode}
use Rattle.filters.specs.declared.expression.Filter.TheDeep.{deep-Node}
use Rattle.filters.specs.Expressions.{Expression, Both, nodes, all_of}
use Rattle.filters.specs.Views.{expression_of}

-- of what is joined, each part and the first ones together have no more nodes than the whole
pub most_le_nodes : (e : Expression) (more : List Expression) → (nodes e ≤ nodes (all_of e more)) × (most (λ k. nodes k + 1) more ≤ nodes (all_of e more))
most_le_nodes e [] = (omega arith, omega arith)
most_le_nodes e (f ∷ fs) = let rest = most_le_nodes (Both e f) fs in (omega (arith, rest), omega (arith, rest))

pub depth_le_nodes : (n : Node) → max (deep-Node n) 0 ≤ nodes (expression_of n)
depth_le_nodes (CompareNode field test text) = omega arith
depth_le_nodes (UnderNode folder) = omega arith
depth_le_nodes (NegationNode f) = omega arith
depth_le_nodes (AllNode one two more) = omega (arith, most_le_nodes (Both one.value two.value) more.items)
