-- What some texts are (TOML 1.1; the keys are this profile's), and where the ranges end.
use Rattle.std.specs.Prelude.{◌≡◌, ℕ, List, ◌++◌, codes, pos, negsuc, Bool, true, false, Some, None}
use Rattle.toml.specs.Data.{Data, Members, array, boolean, integer, member, no_items, no_members, string}
use Rattle.toml.specs.Parse.{parse_document}
use Rattle.settings.specs.Keys.{is_good, output_keys, settings_keys}
use Rattle.settings.specs.Refusals.{IsRefusedFor, IsTaken, IsTakenDocument}
use Rattle.settings.specs.Values.{value}

-- the two keys that must be there
abbrev pub least_text : List ℕ
least_text = codes "music = \"/m\"\nlisten = \"127.0.0.1:0\"\n"

abbrev pub least_table : Members
least_table = member (codes "listen") (string (codes "127.0.0.1:0")) (member (codes "music") (string (codes "/m")) no_members)

-- the value of a key in it
abbrev pub IsThere : List ℕ → Data → Type 0
IsThere name d = value settings_keys name least_table ≡ Some d

abbrev pub Refuses : List ℕ → List ℕ → Type 0
Refuses text name = IsRefusedFor (parse_document text) name

abbrev pub IsTakenText : List ℕ → Type 0
IsTakenText text = IsTakenDocument (parse_document text)

-- the lines of an output whose name is written so between its quotes
abbrev pub output_lines : List ℕ → List ℕ
output_lines name = codes "[[output]]\nname = \"" ++ name ++ codes "\"\npath = \"/p\"\n"

-- the two keys that must be there, and outputs with these names
abbrev pub with_two : List ℕ → List ℕ → List ℕ
with_two one other = least_text ++ output_lines one ++ output_lines other

abbrev pub with_three : List ℕ → List ℕ → List ℕ → List ℕ
with_three one other last = with_two one other ++ output_lines last

-- a key takes this number, or does not
abbrev pub takes : List ℕ → ℕ → Bool
takes name number = is_good settings_keys name (integer (pos number))

abbrev pub output_takes : List ℕ → ℕ → Bool
output_takes name number = is_good output_keys name (integer (pos number))

pub record Readings : Type 0 where
  pub is_read : parse_document least_text ≡ Some least_table
  pub is_taken : IsTaken least_table
  pub rate : IsThere (codes "rate") (integer (pos 44100))
  pub random_start : IsThere (codes "random_start") (integer (pos 0))
  pub history : IsThere (codes "history") (integer (pos 4096))
  pub ring : IsThere (codes "ring") (integer (pos 8192))
  pub kill : IsThere (codes "kill") (boolean false)
  pub everyday : IsThere (codes "everyday") (boolean false)
  pub output : IsThere (codes "output") (array no_items)
  pub no_shelf : value settings_keys (codes "shelf") least_table ≡ None
  pub no_state : value settings_keys (codes "state") least_table ≡ None
  -- no TOML
  pub not_toml : Refuses (codes "music") (codes "")
  -- an unknown key, and one outside its range
  pub unknown : Refuses (codes "music = \"/m\"\nlisten = \"127.0.0.1:0\"\nport = 1\n") (codes "port")
  pub low_rate : Refuses (codes "music = \"/m\"\nlisten = \"127.0.0.1:0\"\nrate = 7999\n") (codes "rate")
  -- an absent key, and the first of two
  pub no_listen : Refuses (codes "music = \"/m\"\n") (codes "listen")
  pub no_key : Refuses (codes "") (codes "listen")
  -- the first of two bad keys, and a bad key before an absent one
  pub two : Refuses (codes "zone = 1\nport = 1\n") (codes "port")
  -- an output without its path
  pub output_fault : Refuses (codes "music = \"/m\"\nlisten = \"127.0.0.1:0\"\n[[output]]\nname = \"a\"\n") (codes "output")
  -- two outputs with names of their own, which are compared byte by byte
  pub two_names : IsTakenText (with_two (codes "a") (codes "b"))
  pub two_cases : IsTakenText (with_two (codes "a") (codes "A"))
  -- two outputs of one name, side by side or not
  pub one_name : Refuses (with_two (codes "a") (codes "a")) (codes "output")
  pub name_again : Refuses (with_three (codes "a") (codes "b") (codes "a")) (codes "output")
  -- a name with a line feed
  pub line_feed : Refuses (with_two (codes "a\\nb") (codes "c")) (codes "output")
  -- the ends of the ranges
  pub below_history : takes (codes "history") 0 ≡ false
  pub least_history : takes (codes "history") 1 ≡ true
  pub most_history : takes (codes "history") 65536 ≡ true
  pub above_history : takes (codes "history") 65537 ≡ false
  pub below_ring : takes (codes "ring") 1023 ≡ false
  pub least_ring : takes (codes "ring") 1024 ≡ true
  pub most_ring : takes (codes "ring") 65536 ≡ true
  pub above_ring : takes (codes "ring") 65537 ≡ false
  pub below_rate : takes (codes "rate") 7999 ≡ false
  pub least_rate : takes (codes "rate") 8000 ≡ true
  pub most_rate : takes (codes "rate") 192000 ≡ true
  pub above_rate : takes (codes "rate") 192001 ≡ false
  pub below_start : is_good settings_keys (codes "random_start") (integer (negsuc 0)) ≡ false
  pub most_start : takes (codes "random_start") 9223372036854775807 ≡ true
  pub below_patience : output_takes (codes "patience") 0 ≡ false
  pub least_patience : output_takes (codes "patience") 1 ≡ true
  pub most_patience : output_takes (codes "patience") 86400 ≡ true
  pub above_patience : output_takes (codes "patience") 86401 ≡ false
