-- Texts of settings, computed.
use Rattle.std.proofs.Common.{refl, codes, inl, inr}
use Rattle.toml.proofs.OnLiterals.{toml_on_literals}
use Rattle.settings.specs.Readings.{Readings, Refuses, IsTakenText, with_three, with_two}
use Rattle.settings.proofs.Causes.{first_alone, first_of_two}

not_toml : Refuses (codes "music") (codes "")
unfolding toml_on_literals
not_toml = refl

unknown : Refuses (codes "music = \"/m\"\nlisten = \"127.0.0.1:0\"\nport = 1\n") (codes "port")
unfolding toml_on_literals
unknown = inl (first_alone (codes "port"))

low_rate : Refuses (codes "music = \"/m\"\nlisten = \"127.0.0.1:0\"\nrate = 7999\n") (codes "rate")
unfolding toml_on_literals
low_rate = inl (first_alone (codes "rate"))

no_listen : Refuses (codes "music = \"/m\"\n") (codes "listen")
unfolding toml_on_literals
no_listen = inr (refl, first_alone (codes "listen"))

no_key : Refuses (codes "") (codes "listen")
unfolding toml_on_literals
no_key = inr (refl, first_of_two (codes "listen") (codes "music") refl)

two : Refuses (codes "zone = 1\nport = 1\n") (codes "port")
unfolding toml_on_literals
two = inl (first_of_two (codes "port") (codes "zone") refl)

output_fault : Refuses (codes "music = \"/m\"\nlisten = \"127.0.0.1:0\"\n[[output]]\nname = \"a\"\n") (codes "output")
unfolding toml_on_literals
output_fault = inl (first_alone (codes "output"))

two_names : IsTakenText (with_two (codes "a") (codes "b"))
unfolding toml_on_literals
two_names = record { good = refl; whole = refl }

two_cases : IsTakenText (with_two (codes "a") (codes "A"))
unfolding toml_on_literals
two_cases = record { good = refl; whole = refl }

one_name : Refuses (with_two (codes "a") (codes "a")) (codes "output")
unfolding toml_on_literals
one_name = inl (first_alone (codes "output"))

name_again : Refuses (with_three (codes "a") (codes "b") (codes "a")) (codes "output")
unfolding toml_on_literals
name_again = inl (first_alone (codes "output"))

line_feed : Refuses (with_two (codes "a\\nb") (codes "c")) (codes "output")
unfolding toml_on_literals
line_feed = inl (first_alone (codes "output"))

pub all : Readings
unfolding toml_on_literals
all = record {
  is_read = refl;
  is_taken = record { good = refl; whole = refl };
  rate = refl;
  random_start = refl;
  history = refl;
  ring = refl;
  kill = refl;
  everyday = refl;
  output = refl;
  no_shelf = refl;
  no_state = refl;
  not_toml = not_toml;
  unknown = unknown;
  low_rate = low_rate;
  no_listen = no_listen;
  no_key = no_key;
  two = two;
  output_fault = output_fault;
  two_names = two_names;
  two_cases = two_cases;
  one_name = one_name;
  name_again = name_again;
  line_feed = line_feed;
  below_history = refl;
  least_history = refl;
  most_history = refl;
  above_history = refl;
  below_ring = refl;
  least_ring = refl;
  most_ring = refl;
  above_ring = refl;
  below_rate = refl;
  least_rate = refl;
  most_rate = refl;
  above_rate = refl;
  below_start = refl;
  most_start = refl;
  below_patience = refl;
  least_patience = refl;
  most_patience = refl;
  above_patience = refl;
}
