-- What the papers name and no other law would tell: fresh and reopened machines as records, the digits of sets and numbers, the numbers in a
-- text, what answers return, and the most rounds by phase, computed from the definitions.
use Prim.Native.Nat.{suc}
use mathlib.Core.Path.{◌≡◌, refl, ap}
use mathlib.Core.Option.{none, some}
use mathlib.Core.List.{[], ◌∷◌}
use Rattle.std.specs.Prelude.{Ok, Err}
use Rattle.causes.specs.declared.Cause.TheVariants.{TooManySets}
use Rattle.machine.specs.declared.Success.TheVariants.{Done, Wrote, Decided}
use Rattle.machine.specs.declared.Verdict.{Verdict}
use Rattle.machine.specs.declared.Verdict.TheVariants.{NonEmpty, Empty}
use Rattle.machine.specs.declared.Phase.TheVariants.{Open, Running, Settled}
use Rattle.machine.specs.Machine.{Machine, fresh}
use Rattle.machine.specs.Text.{text, hex, set_text, decimal, number_text}
use Rattle.machine.specs.Word.{numbers_from, numbers}
use Rattle.machine.specs.Calls.{reopen, Next, done, wrote, decided, refused, returned, due, call}
use Rattle.machine.specs.Causes.{NotOpen, foreign_record}
use Rattle.machine.specs.WellFormed.{most_done}
use Rattle.machine.proofs.Phases.{not_open_reopens}

-- sets are 16 lower-case hex digits, and numbers decimal
pub digits : (set_text 0xfedcba9876543210 ≡ text "fedcba9876543210")
    × (set_text 0x0123456789abcdef ≡ text "0123456789abcdef")
    × (number_text 1234567890 ≡ text "1234567890")
    × (number_text 0 ≡ text "0")
unfolding hex decimal
digits = (refl, refl, refl, refl)

-- the numbers in a text
pub numbers_read : numbers (text "(7.120)w.sh(0,e,(05)v)9") ≡ 7 ∷ 120 ∷ 0 ∷ 5 ∷ 9 ∷ []
unfolding numbers_from
numbers_read = refl

-- a refusal returns its number and its place, print, save and expression their length, a verdict itself, the other calls nothing; the number
-- beside the table
pub returns : (returned (Err (record { cause = TooManySets; place = 300 })) ≡ record { number = some 7; values = 300 ∷ []; verdict = none })
    × (due (refused 7 300) ≡ record { number = some 7; values = 300 ∷ []; verdict = none })
    × (returned (Ok (Wrote 3)) ≡ record { number = none; values = 3 ∷ []; verdict = none })
    × (due (wrote (text "abc")) ≡ record { number = none; values = 3 ∷ []; verdict = none })
    × (returned (Ok (Decided Empty)) ≡ record { number = none; values = []; verdict = some Empty })
    × (due (decided NonEmpty) ≡ record { number = none; values = []; verdict = some NonEmpty })
    × (returned (Ok Done) ≡ record { number = none; values = []; verdict = none })
    × (due done ≡ record { number = none; values = []; verdict = none })
    × (foreign_record ≡ 24)
returns = (refl, refl, refl, refl, refl, refl, refl, refl, refl)

-- fresh is open with no rows
pub fresh_is : fresh ≡ record { rows = []; phase = Open; openings = []; rounds = 0 }
fresh_is = refl

-- reopen, running or settled, drops openings and rounds, keeps the rows and goes to open
pub reopens : (m : Machine) → NotOpen m.phase → (call m reopen).machine ≡ record { rows = m.rows; phase = Open; openings = []; rounds = 0 }
reopens m n = ap (λ (x : Next). x.machine) (not_open_reopens n m)

-- no round is done while open; the last of 129 settles
pub rounds_by_phase : (most_done Open ≡ 0) × (suc (most_done Running) ≡ 129) × ((v : Verdict) → most_done (Settled v) ≡ 129)
rounds_by_phase = (refl, refl, λ v. refl)
