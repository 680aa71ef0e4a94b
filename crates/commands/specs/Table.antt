-- What a word means that stands alone, and the call for it.
use Rattle.std.specs.Prelude.{ℕ, cond, nat_eq, List, [], ◌∷◌, Result, Ok, Err}
use lib.Pointwise.{pointwise}
use Rattle.commands.specs.declared.Call.{Call}
use Rattle.commands.specs.declared.Call.TheVariants.{Changes, Reports, Moves, Names}
use Rattle.commands.specs.declared.NoCall.{NoCall}
use Rattle.commands.specs.declared.NoCall.TheVariants.{Nothing, BadHex, TooLong, Unknown}
use Rattle.commands.specs.Meaning.{Meaning, change, report, move, named, nothing, bad_hex, too_long, unknown, Word, says}

-- the first of the words that it is tells
unfoldable pub alone_as : List Word → List ℕ → Meaning
alone_as [] w = unknown
alone_as (says v m ∷ ws) w = cond (pointwise nat_eq w v) m (alone_as ws w)

-- the call for it, or why there is none
abbrev pub command_of : Meaning → Result Call NoCall
command_of (change call l) = Ok (Changes call 0)
command_of (report call n) = Ok (Reports call n)
command_of (move call) = Ok (Moves call)
command_of (named call l) = Ok (Names call 0)
command_of nothing = Err Nothing
command_of bad_hex = Err BadHex
command_of too_long = Err TooLong
command_of unknown = Err Unknown
