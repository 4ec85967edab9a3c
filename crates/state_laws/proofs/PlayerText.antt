-- The text of all partitions is read line by line as their lines.
use Rattle.std.proofs.Common.{◌≡◌, ◌∙◌, ℕ, ◌<◌, true, false, not, ◌&&◌, nat_le, List, [], ◌∷◌, ◌++◌, length, map, refl, sym, ap, subst, arith, append_assoc, codes, ◌==◌, if◌then◌else◌}
use Rattle.std.specs.Cmp.{first_so, second_so}
use Rattle.std.specs.List.{flat_map, list_all}
use Rattle.std.specs.Str.Lines.{lines as lines_in}
use Rattle.std.proofs.lemmas.Bool.Decides.{nat_tests}
use Rattle.kept_state.specs.Lines.{Line, state_steps}
use Rattle.kept_state.specs.PlayerReading.{PlayerStep, default_steps, other_steps, own_steps, partition_steps, player_steps, text_of_player_step}
use Rattle.kept_state.specs.PlayerReading.{PlayerStep as step}
use Rattle.kept_state.specs.Players.{is_default}
use Rattle.kept_state.specs.Telling.{TellsSteps, is_of_state, steps_in}
use Rattle.kept_state.specs.declared.partitions.KeptPartition.{KeptPartition}
use Rattle.kept_state.proofs.PlayersBack.{partitions_give_back}
use Rattle.mpd_text.specs.Lines.Quoted.{escaped, quoted_text}
use Rattle.partition.specs.Image.{Image}
use Rattle.partition.specs.declared.state.Setup.{Setup}
use Rattle.partition_commands.specs.Partitions.{is_name_byte, is_partition_name}
use Rattle.player_state.specs.declared.state.Library.{Library}
use Rattle.state_laws.specs.Bytes.{bytes_of}
use Rattle.state_laws.specs.Partitions.{AreBack, CanBeTold, Each, HasPartitions, bytes_of_step, lines_of_player, restored}
use Rattle.state_laws.specs.Saying.{EachAsks, begun}
use Rattle.state_laws.specs.Telling.{HasNoControl, IsPlainPartition, LeadsAllThere, PlayerHears, PlayerLinesAreOfState, PlayerTextComesBack, PlayerTextIsLines, ToldPartitionsComeBack}
use Rattle.state_laws.proofs.Everyone.{all_players_come_back, each_told}
use Rattle.state_laws.proofs.Restored.{partitions_come_back}
use Rattle.state_laws.proofs.Telling.{all_told}
use Rattle.state_laws.proofs.Text.{AreFit, EachFit, EachFull, IsPlain, alone_in, append_fit, each_fit, full_state, inside_fit, lines_are_of_state, not_empty, one_line, step_read}

-- ---- one step

-- no byte of its lines is a control
abbrev IsFit : PlayerStep → Type 0
IsFit (step.Open name) = HasNoControl name
IsFit (step.Go name) = HasNoControl name
IsFit (step.Bring name) = HasNoControl name
IsFit (step.Own lines) = (0 < length lines) × AreFit lines

quoted_fit : (name : List ℕ) → HasNoControl name → HasNoControl (quoted_text name)
quoted_fit name e = append_fit (flat_map escaped name) (34 ∷ []) (inside_fit name e) refl

-- a line that stands alone
alone_read : (line rest : List ℕ) → HasNoControl line → IsPlain line → steps_in false (lines_in ((line ++ codes "\n") ++ rest)) ≡ (line ∷ []) ∷ steps_in false (lines_in rest)
alone_read line rest fit plain =
    ap (λ (text : List ℕ). steps_in false (lines_in text)) (append_assoc line (codes "\n") rest)
    ∙ ap (steps_in false) (one_line line rest fit) ∙ alone_in line (lines_in rest) plain

player_step_read : (s : PlayerStep) (rest : List ℕ) → IsFit s → steps_in false (lines_in (text_of_player_step s ++ rest)) ≡ bytes_of_step s ∷ steps_in false (lines_in rest)
player_step_read (step.Open name) rest fit =
    alone_read (codes "newpartition " ++ quoted_text name) rest (quoted_fit name fit)
    (record { no_begin = refl; no_end = refl; full = not_empty (codes "newpartition " ++ quoted_text name) (omega arith) })
player_step_read (step.Go name) rest fit =
    alone_read (codes "partition " ++ quoted_text name) rest (quoted_fit name fit)
    (record { no_begin = refl; no_end = refl; full = not_empty (codes "partition " ++ quoted_text name) (omega arith) })
player_step_read (step.Bring name) rest fit =
    alone_read (codes "moveoutput " ++ quoted_text name) rest (quoted_fit name fit)
    (record { no_begin = refl; no_end = refl; full = not_empty (codes "moveoutput " ++ quoted_text name) (omega arith) })
player_step_read (step.Own lines) rest fit = step_read lines rest fit.0 fit.1

-- ---- all steps

all_read : (steps : List PlayerStep) → Each IsFit steps → steps_in false (lines_in (flat_map text_of_player_step steps)) ≡ map bytes_of_step steps
all_read [] fit = refl
all_read (s ∷ steps) fit =
    player_step_read s (flat_map text_of_player_step steps) fit.0
    ∙ ap (λ (more : List (List (List ℕ))). bytes_of_step s ∷ more) (all_read steps fit.1)

fit_joined : (xs ys : List PlayerStep) → Each IsFit xs → Each IsFit ys → Each IsFit (xs ++ ys)
fit_joined [] ys f g = g
fit_joined (x ∷ xs) ys f g = (f.0, fit_joined xs ys f.1 g)

name_byte_fit : (b : ℕ) → is_name_byte b ≡ true → nat_le 32 b ≡ true
name_byte_fit b e = grind (arith, nat_tests)

name_bytes_fit : (name : List ℕ) → list_all is_name_byte name ≡ true → HasNoControl name
name_bytes_fit [] e = refl
name_bytes_fit (b ∷ bs) e =
    let first : nat_le 32 b ≡ true = name_byte_fit b (first_so _ _ e) in
    rw first (name_bytes_fit bs (second_so _ _ e))

name_fit : (name : List ℕ) → is_partition_name name ≡ true → HasNoControl name
name_fit name e =
    name_bytes_fit name
    (second_so (nat_le (length name) 64) (list_all is_name_byte name)
    (second_so (not (length name == 0)) (nat_le (length name) 64 && list_all is_name_byte name) e))

own_fit : (steps : List (List Line)) → EachFull steps → EachFit steps → Each IsFit (map step.Own steps)
own_fit [] full fit = tt
own_fit (lines ∷ steps) full fit = ((full.0, fit.0), own_fit steps full.1 fit.1)

bring_fit : (outputs : List (List ℕ)) → Each HasNoControl outputs → Each IsFit (map step.Bring outputs)
bring_fit [] fit = tt
bring_fit (output ∷ outputs) fit = (fit.0, bring_fit outputs fit.1)

state_fit : (q : KeptPartition) → EachAsks (state_steps q.kept) → IsPlainPartition q → Each IsFit (own_steps q)
state_fit q ask plain = own_fit (state_steps q.kept) (full_state q.kept) (each_fit (state_steps q.kept) ask plain.1)

partition_fit : (q : KeptPartition) → is_partition_name q.name ≡ true → EachAsks (state_steps q.kept) → IsPlainPartition q → Each IsFit (partition_steps q)
partition_fit q valid ask plain =
    (name_fit q.name valid, (name_fit q.name valid, fit_joined (map step.Bring q.outputs.items) (own_steps q) (bring_fit q.outputs.items plain.0) (state_fit q ask plain)))

abbrev Valid : KeptPartition → Type 0
Valid q = is_partition_name q.name ≡ true

abbrev Asks : KeptPartition → Type 0
Asks q = EachAsks (state_steps q.kept)

defaults_fit : (qs : List KeptPartition) → Each Asks qs → Each IsPlainPartition qs → Each IsFit (flat_map default_steps qs)
defaults_fit [] ask plain = tt
defaults_fit (q ∷ qs) ask plain =
    let first : Each IsFit (default_steps q) =
    elim (is_default q) as (λ b. Each IsFit (if b then own_steps q else [])) [ true ↦ state_fit q ask.0 plain.0 | false ↦ tt ] in
    fit_joined (default_steps q) (flat_map default_steps qs) first (defaults_fit qs ask.1 plain.1)

others_fit : (qs : List KeptPartition) → Each Valid qs → Each Asks qs → Each IsPlainPartition qs → Each IsFit (flat_map other_steps qs)
others_fit [] valid ask plain = tt
others_fit (q ∷ qs) valid ask plain =
    let first : Each IsFit (other_steps q) =
    elim (is_default q) as (λ b. Each IsFit (if b then [] else partition_steps q)) [ true ↦ tt | false ↦ partition_fit q valid.0 ask.0 plain.0 ] in
    fit_joined (other_steps q) (flat_map other_steps qs) first (others_fit qs valid.1 ask.1 plain.1)

pub player_text_is_lines : PlayerTextIsLines
player_text_is_lines partitions valid ask plain =
    ap (λ (text : List ℕ). steps_in false (lines_in text)) (partitions_give_back.text partitions)
    ∙ all_read (player_steps partitions)
    (fit_joined (flat_map default_steps partitions) (flat_map other_steps partitions) (defaults_fit partitions ask plain) (others_fit partitions valid ask plain))

-- ---- which lines there are

each_of_state : (lines : List Line) → Each (λ line. is_of_state line ≡ true) (map bytes_of lines)
each_of_state [] = tt
each_of_state (line ∷ lines) = (lines_are_of_state line, each_of_state lines)

pub player_lines_are_of_state : PlayerLinesAreOfState
player_lines_are_of_state (step.Open name) = (refl, tt)
player_lines_are_of_state (step.Go name) = (refl, tt)
player_lines_are_of_state (step.Bring name) = (refl, tt)
player_lines_are_of_state (step.Own lines) = each_of_state lines

-- ---- what a player is that was told the text

each_asks : (setup : Setup) (qs : List KeptPartition) → Each (CanBeTold setup) qs → Each Asks qs
each_asks setup [] can = tt
each_asks setup (q ∷ qs) can = (can.0.0, each_asks setup qs can.1)

led_there : (seat number : ℕ) (setup : Setup) (library : Library) (partitions : List KeptPartition) (after : Image) → Each Valid partitions → Each Asks partitions
    → Each IsPlainPartition partitions → LeadsAllThere seat number setup library partitions after → after ≡ restored seat number setup library partitions
led_there seat number setup library partitions after valid ask plain (refused, told) =
    let start : Image = begun seat number setup library in
    let of_lines : TellsSteps (PlayerHears seat number) (lines_of_player partitions) start refused after =
    subst (λ (steps : List (List (List ℕ))). TellsSteps (PlayerHears seat number) steps start refused after) (player_text_is_lines partitions valid ask plain) told in
    all_told seat number refused (lines_of_player partitions) start after of_lines

pub player_text_comes_back : PlayerTextComesBack
player_text_comes_back seat number setup library partitions after sets are can plain told =
    subst (HasPartitions library setup.outputs partitions)
    (sym (led_there seat number setup library partitions after are.named (each_asks setup partitions can) plain told))
    (partitions_come_back seat number setup library partitions sets are can)

pub told_partitions_come_back : ToldPartitionsComeBack
told_partitions_come_back seat number setup library parts partitions after a plain told =
    subst (AreBack library.rate parts partitions)
    (sym (led_there seat number setup library partitions after a.fine.named (each_asks setup partitions (each_told setup library parts partitions a.kept a.can a.room)) plain told))
    (all_players_come_back seat number setup library parts partitions a)
