-- Print, expression and save on the record: what is written from its arrays is what the machine writes (`writes`).
use Prim.Native.Nat.{ℕ, ◌<◌}
use mathlib.Core.Path.{◌≡◌, refl, ap, sym, ◌∙◌, subst}
use mathlib.Core.List.Memᴰ
use mathlib.Core.List.{List, [], ◌∷◌, map}
use lib.ListN.{length, get_or, take}
use Rattle.sorted_keys.specs.Keys.{key_at}
use Rattle.rows.specs.declared.Row.{Row}
use Rattle.rows.specs.Keys.{key_of}
use Rattle.rows.proofs.Keys.{key_back}
use Rattle.rows.specs.Rows.{AllFit, standing_sets, batch_of}
use Rattle.std.specs.Prelude.{Ok, Err}
use Rattle.causes.specs.declared.Cause.TheVariants.{VerdictEmpty}
use Rattle.machine.specs.declared.Verdict.{Verdict}
use Rattle.machine.specs.declared.Verdict.TheVariants.{NonEmpty, Empty}
use Rattle.machine.specs.declared.Phase.TheVariants.{Settled}
use Rattle.machine.specs.Machine.{Machine}
use Rattle.machine.specs.WellFormed.{Table, WellFormed}
use Rattle.machine.specs.Calls.{Answer, Call, print, save, expression, Next, write, saved, TellsText}
use Rattle.machine.specs.Sheet.{sheet}
use Rattle.machine.specs.Expression.{expression_of}
use Rattle.machine.specs.Causes.{Writes, sheets, saves, expresses}
use Rattle.machine.specs.Marks.{Marked, on}
use Rattle.machine.proofs.Answers.{refusal, tells_as}
use Rattle.machine.proofs.Phases.{empty_refuses}
use Rattle.machine.proofs.Tables.{sort_table}
use Rattle.machine.proofs.Outcomes.{writing}
use Rattle.row_table.specs.declared.RowKeys.{RowKeys}
use Rattle.row_table.specs.declared.RowSets.{RowSets}
use Rattle.row_table.specs.Arrays.{Keyed, SetsIn}
use Rattle.row_table.specs.Letters.{LettersIn}
use Rattle.row_table.proofs.Sets.{sets_in_held}
use Rattle.search.specs.declared.Endpoints.{Endpoints}
use Rattle.search.specs.Graph.{Graph}
use Rattle.automaton.specs.declared.Automaton.{Automaton}
use Rattle.automaton.specs.Promise.{Gives, GivesKeyed}
use Rattle.rounds.specs.declared.Progress.{Progress}
use Rattle.rounds.specs.Promises.{Given, Mirrors}
use Rattle.walks.proofs.Standing.{keyed_letters}
use Rattle.expression.specs.Promise.{ExpressesWalk}
use Rattle.whole_sheet.specs.Promise.{PrintsSheet}
use Rattle.whole_sheet.specs.Saving.{rows_of}
use Rattle.session.specs.declared.Session.{Session}
use Rattle.session.specs.declared.Reply.{Reply}
use Rattle.session.specs.Record.{Represents}
use Rattle.session.specs.Promise.{Ranged, Promised, HasPhase}
use Rattle.session.specs.Standing.{standing, reply, rounds_in, Reads}
use Rattle.session.proofs.Whole.{standing_of, keyed_of, sets_in_of}
use Rattle.session.proofs.Gate.{in_phase, does_as, promised, refused_in}
use Rattle.session.proofs.Rounded.{mirrors_of}

-- the masks of the standing rows are those of the machine's rows
reads_of : (s : Session) (a : Automaton) → (AllFit (standing s) → s.set_count ≡ length (standing_sets (standing s)) → take s.set_count s.sets ≡ standing_sets (standing s)
    → Gives (standing s) s.sets s.set_count a) → Reads s a
reads_of s a g x p = subst (λ (l : List Row). Table l → SetsIn l s.sets s.set_count → Gives l s.sets s.set_count a) (standing_of x s p)
    (λ t w. g t.fit w.count (sets_in_held (standing s) s.sets s.set_count w)) p.formed.now_formed.table (sets_in_of x s p)

pub reads_keyed : (s : Session) (keys : RowKeys) → Keyed (standing s) keys.keys keys.count → (sets : RowSets) → sets.sets ≡ s.sets → sets.count ≡ s.set_count
    → (a : Automaton) → GivesKeyed keys.keys keys.count sets.sets sets.count a → Reads s a
reads_keyed s keys keyed sets same count a g = reads_of s a (λ fit. rw (← same, ← count) (g (standing s) fit keyed))

-- a text that the machine writes for a call, in the session's buffer
writes : (s : Session) → Ranged s → (old new : List ℕ) → length new ≡ length old → (r : Answer) (c : Call)
    → ((x : Marked) → Represents x s → (text : List ℕ) × Writes x.now c text (length old) × TellsText text old new r) → Promised s (on c) old new (reply s r)
writes s ranged old new l r c f = promised ranged l (λ x p. let w = f x p in
    does_as x c (write x.now (length old) w.0) (writing x.now w.1) p.whole w.2)

-- of a settled session, with what its arrays hold
module _ (s : Session) (v : Verdict) (state : HasPhase s (Ok (Settled v))) (keys : RowKeys) (keyed : Keyed (standing s) keys.keys keys.count)
    (words : List ℕ) (highs : (i : ℕ) → i < keys.count → get_or words i 0 ≡ (key_at keys.keys i).high) (g : Graph) (points : Endpoints)
    (given : (x : Marked) → Represents x s → Given x.now.rows g points.initials points.finals s.set_count)
    (old new : List ℕ) (l : length new ≡ length old) (r : Answer) (rounds : Progress) (k : rounds ≡ rounds_in s) where
  -- what is told of every machine whose rows, masks and rounds these are
  writes_settled : (c : Call) (text : Machine → List ℕ) → ((m : Machine) → m.phase ≡ Settled v → Writes m c (text m) (length old))
      → ((m : Machine) → WellFormed m → m.phase ≡ Settled v → LettersIn m.rows words keys.count → Given m.rows g points.initials points.finals s.set_count
      → Mirrors m rounds.loop_rounds rounds.mix_rounds rounds.phase rounds.rounds → TellsText (text m) old new r)
      → Promised s (on c) old new (reply s r)
  writes_settled c text f h = writes s state.0 old new l r c (λ x p. let e = in_phase x s p state.1 in let w = p.formed.now_formed in
      (text x.now, f x.now e, (rw k at h) x.now w e (keyed_letters (keyed_of x s p keys.keys keys.count keyed) w.table highs) (given x p) (mirrors_of x s p)))

  -- the sheet
  pub prints_settled : PrintsSheet v words keys.count s.set_count g points rounds old new r → Promised s (on (print (length old))) old new (reply s r)
  prints_settled h = writes_settled (print (length old)) (sheet v) (λ m. sheets v (length old))
      (λ m w e f g i. tells_as (ap (λ (n : Next). n.answer) (writing m (sheets v (length old) e))) (h m w e f g i))

  -- its walk
  pub expresses_settled : v ≡ NonEmpty → ExpressesWalk words keys.count s.set_count g points rounds old new r → Promised s (on (expression (length old))) old new (reply s r)
  expresses_settled n h = writes_settled (expression (length old)) expression_of (λ m e. expresses (length old) (e ∙ ap Settled n)) (λ m w e. h m w (e ∙ ap Settled n))

-- no walk where the verdict is empty
pub expresses_nothing : (s : Session) (v : Verdict) → HasPhase s (Ok (Settled v)) → v ≡ Empty → {old : List ℕ} {r : Reply} → r ≡ reply s (Err (refusal VerdictEmpty 0))
    → Promised s (on (expression (length old))) old old r
expresses_nothing s v h e {old} g = refused_in s h (ap Settled e) g (empty_refuses (length old))

-- the rows of the keys of rows
keys_back : (l : List Row) → AllFit l → rows_of (map key_of l) ≡ l
keys_back [] f = refl
keys_back (r ∷ l) f = rw (key_back r (f r (Memᴰ.head refl)), keys_back l (λ x m. f x (Memᴰ.tail m))) refl

-- the bytes of the keys are the saved rows
pub rows_saved : (s : Session) (keys : RowKeys) → Keyed (standing s) keys.keys keys.count → (x : Marked) → Represents x s
    → batch_of (rows_of (take keys.count keys.keys)) ≡ saved x.now
rows_saved s keys keyed x p = let t = p.formed.now_formed.table in
    ap batch_of (ap rows_of (keyed_of x s p keys.keys keys.count keyed).keys_are ∙ keys_back x.now.rows t.fit ∙ sym (sort_table x.now.rows t))

-- the rows of a session
pub saves_rows : (s : Session) → Ranged s → (keys : RowKeys) → Keyed (standing s) keys.keys keys.count → (old new : List ℕ) → length new ≡ length old → (r : Answer)
    → TellsText (batch_of (rows_of (take keys.count keys.keys))) old new r → Promised s (on (save (length old))) old new (reply s r)
saves_rows s ranged keys keyed old new l r t = writes s ranged old new l r (save (length old))
    (λ x p. (saved x.now, saves (length old), subst (λ (text : List ℕ). TellsText text old new r) (rows_saved s keys keyed x p) t))
