-- The whole record of a machine with its marks.
use Prim.Native.Nat.{ℕ, ◌-◌}
use mathlib.Core.Path.{◌≡◌, refl, ap, sym, ◌∙◌, subst}
use mathlib.Core.List.{List}
use lib.ListN.{length, replicate}
use lib.Seq.{take_at}
use Rattle.rows.specs.declared.Row.{Row}
use Rattle.rows.specs.Rows.{standing_sets}
use Rattle.orderings.specs.Steps.{Claim, loops, mixes}
use Rattle.machine.specs.declared.Phase.TheVariants.{Open}
use Rattle.machine.specs.Machine.{Machine, open_with}
use Rattle.machine.specs.Marks.{Marked}
use Rattle.machine.specs.WellFormed.{Table, Made}
use Rattle.machine.proofs.Outcomes.{rows_to}
use Rattle.sorted_keys.specs.declared.Key.{Key}
use Rattle.row_table.specs.Arrays.{padded, Keyed, SetsIn}
use Rattle.rounds.specs.Arrays.{rounds_of}
use Rattle.rounds.proofs.OpenClaims.{no_rounds}
use Rattle.marks.specs.Record.{marks_of}
use Rattle.session.specs.declared.Session.{Session}
use Rattle.session.specs.Record.{blank, record_of, Represents}
use Rattle.session.specs.Standing.{first_rows, standing, with_table, with_now}

module _ (x : Marked) (s : Session) (p : Represents x s) where
  pub count_of : s.row_count ≡ length x.now.rows
  unfolding record_of
  count_of = ap (λ (t : Session). t.row_count) p.whole

  pub set_count_of : s.set_count ≡ length (standing_sets x.now.rows)
  unfolding record_of
  set_count_of = ap (λ (t : Session). t.set_count) p.whole

  pub sets_array : s.sets ≡ padded 64 0 (standing_sets x.now.rows)
  unfolding record_of
  sets_array = ap (λ (t : Session). t.sets) p.whole

  pub phase_of : s.phase ≡ x.now.phase
  unfolding record_of
  phase_of = ap (λ (t : Session). t.phase) p.whole

  -- the machine's rows stand
  pub standing_of : standing s ≡ x.now.rows
  unfolding record_of first_rows
  standing_of = ap standing p.whole
      ∙ take_at x.now.rows (replicate (256 - length x.now.rows) blank) (length x.now.rows) refl

  -- the keys of the standing rows are those of the machine's rows, and the sets are its sets
  pub keyed_of : (keys : List Key) (n : ℕ) → Keyed (standing s) keys n → Keyed x.now.rows keys n
  keyed_of keys n k = subst (λ l. Keyed l keys n) standing_of k

  pub sets_in_of : SetsIn x.now.rows s.sets s.set_count
  sets_in_of = record { count = set_count_of; sets_are = sets_array }

  pub marks_in : s.marks ≡ marks_of x.marks
  unfolding record_of
  marks_in = ap (λ (t : Session). t.marks) p.whole

  pub mark_count_of : s.marks.count ≡ length x.marks
  unfolding record_of marks_of
  mark_count_of = ap (λ (t : Session). t.marks.count) p.whole

  pub rounds_count : s.rounds ≡ x.now.rounds
  unfolding record_of
  rounds_count = ap (λ (t : Session). t.rounds) p.whole

module _ (x : Marked) (s : Session) (p : Represents x s) (o : x.now.phase ≡ Open) where
  pub open_is : x.now ≡ open_with x.now.rows
  open_is = subst (Made x.now) o p.formed.now_formed.made

  -- an open machine with other rows is open
  open_rows : (rows : List Row) → rows_to x.now rows ≡ open_with rows
  open_rows rows = ap (λ (k : Machine). rows_to k rows) open_is

  -- the record with another table is that of the machine with its rows
  pub rows_table : (rows : List Row) → Table rows → with_table s rows ≡ record_of (with_now x (rows_to x.now rows))
  unfolding record_of
  rows_table rows t =
      let of : (loop-rounds mix-rounds : List ℕ) → Session = λ a b. record {
        rows = padded 256 blank rows;
        row_count = length rows;
        sets = padded 64 0 (standing_sets rows);
        set_count = length (standing_sets rows);
        loop_rounds = a;
        mix_rounds = b;
        phase = Open;
        rounds = 0;
        marks = marks_of x.marks;
      } in
      let same : (claim : ℕ → Claim) → rounds_of (open_with x.now.rows) claim ≡ rounds_of (open_with rows) claim =
      λ claim. no_rounds x.now.rows claim p.formed.now_formed.table.few_sets ∙ sym (no_rounds rows claim t.few_sets) in
      ap (λ (k : Session). with_table k rows) (p.whole ∙ ap (λ (m : Machine). record_of (with_now x m)) open_is)
      ∙ ap (λ (a : List ℕ). of a (rounds_of (open_with x.now.rows) mixes)) (same loops)
      ∙ ap (λ (b : List ℕ). of (rounds_of (open_with rows) loops) b) (same mixes)
      ∙ ap (λ (m : Machine). record_of (with_now x m)) (sym (open_rows rows))
