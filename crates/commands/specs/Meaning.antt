-- The meaning of a line.
use Rattle.std.specs.Prelude.{ℕ, ◌+◌, Bool, true, false, ◌&&◌, cond, List, [], ◌∷◌, length, drop, eqb, leb}
use Rattle.machine.specs.Text.{text}
use Rattle.commands.specs.declared.Change.{Change}
use Rattle.commands.specs.declared.Change.TheVariants.{Load, Withdraw}
use Rattle.commands.specs.declared.Report.{Report}
use Rattle.commands.specs.declared.Report.TheVariants.{Print, Save, Expression}
use Rattle.commands.specs.declared.Move.{Move}
use Rattle.commands.specs.declared.Move.TheVariants.{Close, Round, Reopen, Verdict}
use Rattle.commands.specs.declared.Naming.{Naming}
use Rattle.commands.specs.declared.Naming.TheVariants.{Mark, Return}
use Rattle.commands.specs.Digits.{digits, pairs, bytes, number_from, at_most}

-- a call with its batch, with the length of the buffer that it is lent, with neither, or with its name; a line that is passed over; hex
-- digits that are none or not in pairs; a batch or a name for which there is no room; any other line
pub data Meaning : Type 0 where
  change : Change → List ℕ → Meaning
  report : Report → ℕ → Meaning
  move : Move → Meaning
  named : Naming → List ℕ → Meaning
  nothing : Meaning
  bad_hex : Meaning
  too_long : Meaning
  unknown : Meaning

-- the longest buffer that a call is lent: no sheet and no save is longer than 6,400 bytes; an expression has 1 MB
abbrev pub longest : Report → ℕ
longest Print = 6400
longest Save = 6400
longest Expression = 1048576

-- a word, and what it means alone
pub data Word : Type 0 where
  says : List ℕ → Meaning → Word

unfoldable pub words : List Word
words =
    says (text "load") (change Load [])
    ∷ says (text "withdraw") (change Withdraw [])
    ∷ says (text "print") (report Print (longest Print))
    ∷ says (text "save") (report Save (longest Save))
    ∷ says (text "close") (move Close)
    ∷ says (text "round") (move Round)
    ∷ says (text "reopen") (move Reopen)
    ∷ says (text "verdict") (move Verdict)
    ∷ says (text "mark") (named Mark [])
    ∷ says (text "return") (named Return [])
    ∷ says (text "expression") (report Expression (longest Expression))
    ∷ []

-- an empty line and a comment
unfoldable pub passed_over : List ℕ → Bool
passed_over [] = true
passed_over (c ∷ l) = eqb c 35

-- the call with the bytes that hex digits name, where the batch has room for them
unfoldable pub batch : Change → ℕ → List ℕ → Meaning
batch call room l = cond (pairs l) (cond (leb (length l) (room + room)) (change call (bytes l)) too_long) bad_hex

-- the call with a length in decimal digits, one at least
unfoldable pub lends : Report → List ℕ → Meaning
lends call [] = unknown
lends call (c ∷ l) = cond (digits 10 (c ∷ l)) (report call (at_most (longest call) (number_from 0 (c ∷ l)))) unknown

-- the call with the text as the name, any bytes, where the batch has room for them
unfoldable pub with_name : Naming → ℕ → List ℕ → Meaning
with_name call room l = cond (leb (length l) room) (named call l) too_long

-- the word with a text: a batch, a length or a name, where the call takes one
abbrev pub with_text : Meaning → ℕ → List ℕ → Meaning
with_text (change call l) room t = batch call room t
with_text (report call n) room t = lends call t
with_text (move call) room t = unknown
with_text (named call l) room t = with_name call room t
with_text nothing room t = unknown
with_text bad_hex room t = unknown
with_text too_long room t = unknown
with_text unknown room t = unknown

-- the word with what stands behind it: nothing, or one space and a text
abbrev pub behind : Meaning → ℕ → List ℕ → Meaning
behind m room [] = m
behind m room (c ∷ t) = with_text m room t

-- the line starts with the word, and there it ends or goes on with a space
unfoldable pub starts : List ℕ → List ℕ → Bool
starts [] [] = true
starts [] (x ∷ l) = eqb x 32
starts (c ∷ w) [] = false
starts (c ∷ w) (x ∷ l) = eqb x c && starts w l

-- the first of the words that the line starts with tells
unfoldable pub called : List Word → ℕ → List ℕ → Meaning
called [] room l = unknown
called (says w m ∷ ws) room l = cond (starts w l) (behind m room (drop (length w) l)) (called ws room l)

-- the line, with so much room for a batch
unfoldable pub meaning : ℕ → List ℕ → Meaning
meaning room l = cond (passed_over l) nothing (called words room l)
