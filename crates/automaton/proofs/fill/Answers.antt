-- `fill` meets its contract. The loop's invariant: where the graph had the sets and nothing else, the masks are those of the rows before the key.
use Prim.Native.Nat.{◌≤◌, ◌<◌}
use mathlib.Core.Path.{◌≡◌, ap, subst, ◌∙◌}
use native.Mathlib.Omega.{arith}
use lib.ListN.{length, take, length-take, length-map}
use lib.Seq.{take-take, take_all, length-take-le}
use Rattle.std.proofs.lemmas.List.{get_or-take}
use Rattle.sorted_keys.specs.declared.Key.{Key}
use Rattle.sorted_keys.specs.Keys.{key_at}
use Rattle.rows.specs.Keys.{key_of, row_of}
use Rattle.rows.proofs.Sets.{sets_rise}
use Rattle.search.specs.Graph.{Unindexed}
use Rattle.row_table.proofs.Keys.{row_next}
use Rattle.automaton.proofs.Passing.{none_passed, none_unindexed, passed_front}
use Rattle.automaton.proofs.Giving.{finished, finished_indexed}
use Rattle.automaton.proofs.fill.Goals as goal

pub loop-key-init : goal.loop-key-init
loop-key-init c has = let few : length (take c.args.sets.now.count c.args.sets.now.sets) ≤ 64 = let s = c.args.sets.now in omega (arith, length-take s.count s.sets, s.few) in record { bare = none_unindexed _ _ _ few has; passed = λ rows f key. none_passed _ _ _ _ few has }

pub loop-key-preserved : goal.loop-key-preserved
loop-key-preserved c has =
    let k = c.args.keys.now in
    let i = c.loop-key.key-index in
    let now = c.loop-key.invariant has in
    let here : i < k.count = omega (arith, length-take k.count k.keys, c.loop-key-test.true) in
    let row : c.of_key.result ≡ row_of (key_at k.keys i) = c.of_key.ensures ∙ ap (λ (x : Key). row_of x) (get_or-take k.count k.keys i _ here) in
    record {
      bare = c.take_row-seen.ensures.bare now.bare;
      passed = λ rows f key. rw (row_next rows k.keys k.count key f i here, ← row) (c.take_row-seen.ensures.takes (take i rows) (now.passed rows f key));
    }

pub returns-clause-gives : goal.returns-clause-gives
returns-clause-gives c e rows f key count are =
    let s = c.args.sets.now in
    let k = c.args.keys.now in
    let now = c.loop-key.invariant (c.put_sets.ensures e) in
    let few : s.count ≤ length s.sets = omega arith in
    let end : length rows ≤ c.loop-key.key-index = omega (arith, c.loop-key-test.false, ap length key.keys_are, length-map rows key_of) in
    finished f count are (omega arith) (subst (Unindexed c.loop-key.graph) (length-take-le s.count s.sets few) now.bare)
    (sets_rise rows (take s.count s.sets) s.count (take-take s.count s.count s.sets (omega arith) ∙ are) count)
    (passed_front s.sets s.count few (rw (take_all c.loop-key.key-index rows end) at (now.passed rows f key)))
    c.finish.ensures c.points.ensures.starts c.points.ensures.ends

pub returns-clause-indexed : goal.returns-clause-indexed
returns-clause-indexed c e = let s = c.args.sets.now in
    finished_indexed (omega arith) (subst (Unindexed c.loop-key.graph) (length-take-le s.count s.sets (omega arith)) (c.loop-key.invariant (c.put_sets.ensures e)).bare) c.finish.ensures
