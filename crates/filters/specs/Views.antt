-- What a node is seen as.
use Rattle.filters.specs.declared.expression.Node.{Node}
use Rattle.filters.specs.declared.expression.Node.TheVariants.{Compare as CompareNode, Under as UnderNode, Negation as NegationNode, All as AllNode}
use Rattle.filters.specs.Expressions.{Expression, Compare, Under, Negation, Both, all_of}

abbrev pub expression_of : Node → Expression
expression_of (CompareNode field test text) = Compare field test text
expression_of (UnderNode folder) = Under folder
expression_of (NegationNode f) = Negation f.value
expression_of (AllNode one two more) = all_of (Both one.value two.value) more.items
