-- The words that the program takes, as clap's definition for simple commands says them: commands, and the
-- arguments of each (this profile's).
use Rattle.std.specs.Prelude.{[], ◌∷◌, codes, true, Some, pos}
use Rattle.clap.specs.Words.{App, Rule, new_app, new_rule, with_rule, with_subcommand}
use Rattle.clap.specs.declared.builder.ArgAction.TheVariants.{Set, SetTrue}
use Rattle.clap.specs.declared.builder.value_parser.ValueParser.TheVariants as parser

-- `--config FILE`, which may not be left out
abbrev pub config : Rule
config = record (new_rule (codes "config")) { long = Some (codes "config"); required = true; action = Some Set; value_names = 1 }

-- `--check`
abbrev pub check : Rule
check = record (new_rule (codes "check")) { long = Some (codes "check"); action = Some SetTrue }

-- `serve --config FILE [--check]`
abbrev pub serve : App
serve = with_rule (with_rule (new_app (codes "serve")) config) check

-- `--rate N`: from 8,000 to 192,000, and 44,100 where it is left out
abbrev pub rate : Rule
rate = record (new_rule (codes "rate")) {
  long = Some (codes "rate");
  action = Some Set;
  value_names = 1;
  defaults = codes "44100" ∷ [];
  parser = Some (parser.Signed (pos 8000) (pos 192000));
}

-- `DIR`, which may not be left out
abbrev pub folder : Rule
folder = record (new_rule (codes "folder")) { required = true; action = Some Set; value_names = 1 }

-- `--everyday`
abbrev pub everyday : Rule
everyday = record (new_rule (codes "everyday")) { long = Some (codes "everyday"); action = Some SetTrue }

-- `scan [--rate N] [--everyday] DIR`
abbrev pub scan : App
scan = with_rule (with_rule (with_rule (new_app (codes "scan")) rate) everyday) folder

-- `script`
abbrev pub script : App
script = new_app (codes "script")

-- a command that has a version, and that wants one of its commands
abbrev pub bare : App
bare = let app = new_app (codes "music_daemon") in record app { top = record app.top { subcommand_required = true; has_version = true } }

-- the whole command line
abbrev pub daemon : App
daemon = with_subcommand (with_subcommand (with_subcommand bare serve.top) scan.top) script.top
