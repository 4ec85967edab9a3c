-- A player that was just opened.
use Rattle.std.proofs.Common.{◌≡◌, ℕ, ◌+◌, ◌==◌, Bool, true, List, [], ◌∷◌, length, Some, None, codes, refl, ap, arith, if◌then◌else◌}
use Rattle.std.proofs.lemmas.Bool.{eq-eqb}
use Rattle.connected_clients.specs.Clients.{client_of, newcomer}
use Rattle.kept_state.specs.Lines.{state_steps}
use Rattle.kept_state.specs.Reading.{opened}
use Rattle.mpd_text.specs.Answers.Number.{number_of}
use Rattle.partition_table.specs.Openings.{OpeningsData}
use Rattle.partition_table.specs.Parts.{opening_part}
use Rattle.partition.specs.Image.{first_part, openings_of}
use Rattle.partition.specs.Step.{next_image}
use Rattle.player_state.specs.Outputs.{OutputsData}
use Rattle.state_laws.specs.Bytes.{OpenedComesBack, read_bytes}
use Rattle.state_laws.specs.Having.{AreOptions, Has}
use Rattle.state_laws.specs.Saying.{OpensEmpty, begun, first_options, songs_of}
use Rattle.state_laws.proofs.Bytes.{bytes_are_read}
use Rattle.state_laws.proofs.Whole.{state_comes_back}

options_told : (openings : OpeningsData) (index : ℕ) (name : List ℕ) (outputs : OutputsData) → AreOptions (opening_part openings index name outputs) first_options
unfolding number_of
options_told openings index name outputs = record { volume = refl; repeat = refl; random = refl; single = refl; consume = refl; crossfade = refl }

-- a partition that is opened
pub has_opening : (rate : ℕ) (openings : OpeningsData) (index : ℕ) (name : List ℕ) (outputs : OutputsData) → length outputs.enabled ≡ length outputs.here
    → Has rate (opening_part openings index name outputs) (opened first_options)
has_opening rate openings index name outputs known = record {
  options = options_told openings index name outputs;
  outputs = record { known = known; as_said = λ n on e here fine. cc };
  queue = refl;
  song = (refl, refl);
}

pub own : (number : ℕ) → client_of number (newcomer number ∷ []) ≡ Some (newcomer number)
own number = let same : (number == number) ≡ true = eq-eqb number number refl in ap (λ (b : Bool). if b then Some (newcomer number) else None) same

pub opens_empty : OpensEmpty
unfolding next_image
opens_empty seat number songs setup library h = record {
  same = refl;
  client = newcomer number;
  there = own number;
  listens = refl;
  part = first_part setup;
  placed = refl;
  has = has_opening library.rate (openings_of setup) 0 (codes "default") setup.outputs h.known;
  room = (omega (arith, h.queue), omega (arith, h.ids));
}

pub opened_comes_back : OpenedComesBack
opened_comes_back seat number setup library kept ask h =
    let songs : ℕ = songs_of (state_steps kept) in
    state_comes_back seat number 0 library read_bytes (begun seat number setup library) kept first_options bytes_are_read ask
    (opens_empty seat number (songs + 0) setup library (record { known = h.known; queue = omega (arith, h.queue); ids = omega (arith, h.ids) }))
