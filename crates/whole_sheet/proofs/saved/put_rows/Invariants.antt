-- `put_rows` meets its contract. The invariant: the bytes of the rows that are left are to be written.
use lib.ListN.{drop}
use Rattle.lists.specs.Tests.{gather}
use Rattle.texts.proofs.Parts.{WroteTo}
use Rattle.whole_sheet.proofs.Saving.{key_bytes}
use Rattle.whole_sheet.proofs.saved.put_rows.Given as goal

abbrev pub invariant-loop-key : goal.invariant-loop-key
invariant-loop-key l = WroteTo (gather key_bytes l.keys) l.initial.buf l.buf l.at (gather key_bytes (drop l.key-index l.keys))
