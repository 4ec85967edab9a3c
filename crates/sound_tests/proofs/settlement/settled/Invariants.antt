use Rattle.sound_tests.proofs.settlement.settled.Given as goal

abbrev pub ghosts-settled_at-E-Ledger : goal.ghosts-settled_at-E-Ledger
ghosts-settled_at-E-Ledger a = record { name = a.blanks.decoded.name; parts = a.blanks.decoded.parts }

abbrev pub ghosts-settled_at-W-Ledger : goal.ghosts-settled_at-W-Ledger
ghosts-settled_at-W-Ledger a = record { name = a.blanks.written.name; parts = a.blanks.written.parts }

abbrev pub ghosts-settled_at-X-Ledger : goal.ghosts-settled_at-X-Ledger
ghosts-settled_at-X-Ledger a = record { name = a.blanks.discarded.name; parts = a.blanks.discarded.parts }
