-- Lines and what they mean, computed.
use mathlib.Core.Path.{◌≡◌, refl}
use mathlib.Core.List.{[], ◌∷◌, map}
use Rattle.machine.specs.Text.{text}
use Rattle.commands.specs.declared.Change.TheVariants.{Load}
use Rattle.commands.specs.declared.Report.TheVariants.{Print, Save, Expression}
use Rattle.commands.specs.declared.Move.TheVariants.{Close, Verdict}
use Rattle.commands.specs.declared.Naming.TheVariants.{Mark, Return}
use Rattle.commands.specs.Digits.{between, digit_value, digits, pairs, bytes, number_from, at_most}
use Rattle.commands.specs.Meaning.{change, report, move, named, nothing, bad_hex, too_long, unknown, words, starts, passed_over, batch, lends, with_name, called, meaning}

-- digits of both cases; no room; no digits; an odd count of them; no hex; one word; two; buffers; no number; a comment
lines : map (λ line. meaning 2 (text line))
    ("load 0aFf" ∷ "withdraw 010000" ∷ "load" ∷ "load " ∷ "load 010" ∷ "withdraw 0g" ∷ "close" ∷ "close now" ∷ "closed" ∷ "verdict" ∷ "print" ∷ "save 0012" ∷ "print 99999999" ∷ "print " ∷ "# close" ∷ [])
    ≡ change Load (10 ∷ 255 ∷ []) ∷ too_long ∷ change Load [] ∷ change Load [] ∷ bad_hex ∷ bad_hex ∷ move Close ∷ unknown ∷ unknown ∷ move Verdict ∷ report Print 6400 ∷ report Save 12 ∷ report Print 6400 ∷ unknown ∷ nothing ∷ []
unfolding between digit_value digits pairs bytes number_from at_most words starts passed_over batch lends called meaning
lines = refl

-- names: all that stands behind one space, of any bytes; none; no room; other words
names_of_lines : map (λ line. meaning 2 (text line)) ("mark ab" ∷ "return Z9" ∷ "mark" ∷ "mark " ∷ "return" ∷ "mark  a" ∷ "mark a " ∷ "return abc" ∷ "marks" ∷ "Mark a" ∷ [])
    ≡ named Mark (text "ab") ∷ named Return (text "Z9") ∷ named Mark [] ∷ named Mark [] ∷ named Return [] ∷ named Mark (text " a") ∷ named Mark (text "a ") ∷ too_long ∷ unknown ∷ unknown ∷ []
unfolding words starts passed_over with_name called meaning
names_of_lines = refl

-- request C-12: an expression, into 1 MB or as much as the line says, at most that
expressions : map (λ line. meaning 2 (text line)) ("expression" ∷ "expression 0" ∷ "expression 0012" ∷ "expression 6401" ∷ "expression 1048576" ∷ "expression 1048577" ∷ "expression " ∷ "expression 9a" ∷ "expressions" ∷ "express" ∷ [])
    ≡ report Expression 1048576 ∷ report Expression 0 ∷ report Expression 12 ∷ report Expression 6401 ∷ report Expression 1048576 ∷ report Expression 1048576 ∷ unknown ∷ unknown ∷ unknown ∷ unknown ∷ []
unfolding between digit_value digits number_from at_most words starts passed_over lends called meaning
expressions = refl
