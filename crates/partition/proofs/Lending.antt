-- Shelves that were lent to an event and are as they were.
use Rattle.std.proofs.Common.{inl, inr, ℕ, ◌≤◌, false, Option, Some, None, refl, arith}
use Rattle.shelf.specs.Calls.{Call}
use Rattle.shelf.specs.Maps.{Maps, Same, Standing, Changes}
use Rattle.player_events.specs.declared.event.Event.{Event}
use Rattle.partition.specs.declared.partition.PartitionFault.{PartitionFault}
use Rattle.partition.specs.declared.partition.PartitionFault.TheVariants.{NoMemory}
use Rattle.partition.specs.Image.{Image}
use Rattle.partition.specs.Lent.{IsRefused}
use Rattle.partition.specs.Refusals.{MayRefuse}
use Rattle.transitions.specs.Shelves.{LeavesUnchanged, no_store_reply}
use Rattle.player_events.specs.Events.{with_store_reply}
use Rattle.partition.specs.Step.{limit_of}

pub same_maps : (m : Maps) → Same m m
same_maps m = record { lists = λ name. refl; stickers = λ kind target name. refl }

at_most : (n : ℕ) → n ≤ n
at_most n = omega arith

-- a shelf that was not called
pub uncalled : (s : Standing) (after : Maps) → Changes s s false after
uncalled s after = record {
  clean = λ clean. clean;
  counts = at_most s.faults;
  stays_open = λ clean opened. inl opened;
  ours = λ trusted opened. trusted.1;
  done = λ trusted is. cc;
  kept = λ trusted is opened. same_maps s.maps;
  stop = λ trusted m left. inl left;
}

-- want of memory may come instead of each limit
pub may_want : (limit : Option PartitionFault) → MayRefuse limit NoMemory
may_want None = refl
may_want (Some limit) = inr refl

module _ {S : Type 0} (standing : S → Standing) (failed : S → S → Call → Type 0) where
  pub untouched : (s : S) → LeavesUnchanged standing failed s s
  untouched s = record {
    between = s;
    was_read = false;
    asked = uncalled (standing s) (standing s).maps;
    after = (standing s).maps;
    written = uncalled (standing s) (standing s).maps;
  }

  -- an event that found no memory before the shelf was called
  pub wanting : (seat : ℕ) (i : Image) (s : S) (event : Event) → IsRefused standing failed i s s seat event NoMemory
  wanting seat i s event = record {
    heard = no_store_reply;
    refused = may_want (limit_of seat i (with_store_reply event no_store_reply));
    cause = inl refl;
    unchanged = untouched s;
  }
