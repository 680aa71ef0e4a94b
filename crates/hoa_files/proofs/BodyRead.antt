-- The loop over the body: what was read up to a place (`BodyRead`), and what each line does to it (`body_state`, `body_edge`, `body_refused`, `body_end`).
use Prim.Native.Nat.{ℕ, ◌+◌, ◌*◌, ◌-◌, ◌≤◌, ◌<◌}
use mathlib.Core.Path.{◌≡◌, refl, sym, ap, subst, ◌∙◌}
use mathlib.Core.Bool.{Bool, ◌||◌}
use mathlib.Core.Logic.{⊎_elim}
use mathlib.Core.List.{List, [], ◌∷◌, ◌++◌}
use lib.ListN.{length, drop, length-append, length-drop}
use lib.Dec.{eqb}
use native.Mathlib.Omega.{arith}
use Rattle.lists.proofs.Places.{last_of}
use Rattle.masks.specs.Mask.{member}
use Rattle.masks.proofs.Member.{lt_or_le}
use Rattle.machine.specs.Sheet.{line}
use Rattle.std.specs.Prelude.{Result}
use Rattle.causes.specs.declared.Cause.{Cause}
use Rattle.causes.specs.Numbers.{number_of}
use Rattle.machine.specs.declared.Refusal.{Refusal}
use Rattle.buchi_rows.specs.declared.BuchiMasks.{BuchiMasks}
use Rattle.hoa_files.specs.Automata.{BuchiState, state_line, edge_line, end_line}
use Rattle.hoa_files.specs.Files.{FileCause}
use Rattle.hoa_files.specs.Reading.{◌begin_with◌, TakesLine, RefusesLine, TakesHead, edge_place, MarksOne, InMasks, FinishesFile, TellsFile}
use Rattle.hoa_files.proofs.States.{state_with}
use Rattle.hoa_files.proofs.Masking.{MarkedIn, EdgesIn, marked_state, edges_state, marked_edge, edges_edge, marked_none, edges_none}
use Rattle.hoa_files.proofs.PartRead.{PartRead, part_within, part_state, part_edge, part_refused, part_more, part_end, part_start}

-- the states up to a place, how many they are, and the masks of them
pub record BodyRead (l : List ℕ) (n s at count marked edges : ℕ) : Type 0 where
  pub states : List BuchiState
  pub part : PartRead l n s at states
  pub count_is : count ≡ length states
  pub marked_in : MarkedIn states marked
  pub edges_in : EdgesIn states edges

one_longer : (l : List BuchiState) (s : BuchiState) → length (l ++ (s ∷ [])) ≡ length l + 1
one_longer l s = length-append l (s ∷ [])

module _ {l : List ℕ} {n s at count marked edges : ℕ} (b : BodyRead l n s at count marked edges) where
  pub body_within : (at ≤ length l) × (count ≤ n) × (n ≤ 6)
  body_within = (part_within b.part, omega (arith, b.count_is, b.part.inside.no_more), b.part.inside.at_most_six)

  pub body_state : (is_marked : Bool) (length_of new : ℕ) → count < n → TakesLine (drop at l) (state_line count is_marked) length_of → MarksOne marked count is_marked new
      → BodyRead l n s (at + length_of) (count + 1) new edges
  body_state is_marked length_of new h (stands, length_is) one =
      let e = b.count_is in
      record {
        states = b.states ++ (state_with is_marked [] ∷ []);
        part = subst (λ k. PartRead l n s (at + k) (b.states ++ (state_with is_marked [] ∷ []))) (ap (λ k. length (line (state_line k is_marked))) (sym e) ∙ sym length_is)
            (part_state b.part (omega arith) is_marked (subst (λ k. drop at l begin_with line (state_line k is_marked)) e stands));
        count_is = ap (λ k. k + 1) e ∙ sym (one_longer b.states (state_with is_marked []));
        marked_in = marked_state b.states marked new is_marked b.marked_in (subst (λ k. MarksOne marked k is_marked new) e one);
        edges_in = edges_state b.states edges is_marked b.edges_in;
      }

  pub body_edge : (q length_of new : ℕ) → 0 < count → q < n → TakesLine (drop at l) (edge_line q) length_of → ((t : ℕ) → member t new ≡ (member t edges || eqb t (6 * (count - 1) + q)))
      → BodyRead l n s (at + length_of) count marked new
  body_edge q length_of new h small (stands, length_is) one = go b.states b.part b.count_is b.marked_in b.edges_in (last_of b.states (omega (arith, b.count_is)))
    where
      go : (sts : List BuchiState) → PartRead l n s at sts → count ≡ length sts → MarkedIn sts marked → EdgesIn sts edges → (k : List BuchiState) × (x : BuchiState) × (sts ≡ k ++ (x ∷ []))
          → BodyRead l n s (at + length_of) count marked new
      go sts part count_is marked_in edges_in (k, x, e) =
          let m = x.marked in
          let qs = x.edges in
          let y : BuchiState = state_with m (qs ++ (q ∷ [])) in
          let part' : PartRead l n s at (k ++ (state_with m qs ∷ [])) = subst (PartRead l n s at) e part in
          let long : count ≡ length k + 1 = count_is ∙ ap length e ∙ one_longer k x in
          let place : 6 * (count - 1) + q ≡ edge_place (length k) q = omega (arith, long) in
          record {
            states = k ++ (y ∷ []);
            part = subst (λ i. PartRead l n s (at + i) (k ++ (y ∷ []))) (sym length_is) (part_edge k m qs q part' small stands);
            count_is = long ∙ sym (one_longer k y);
            marked_in = marked_edge k marked m qs (qs ++ (q ∷ [])) (subst (λ (z : List BuchiState). MarkedIn z marked) e marked_in);
            edges_in = edges_edge k edges new m qs q (omega (arith, long, part.inside.no_more, part.inside.at_most_six, count_is)) (omega (arith, part.inside.at_most_six))
                (subst (λ (z : List BuchiState). EdgesIn z edges) e edges_in) (λ t. one t ∙ ap (λ i. member t edges || eqb t i) place);
          }

  pub body_refused : (cause : Cause) → RefusesLine (drop at l) n count (number_of cause) → FileCause l (number_of cause) at
  body_refused cause r = part_refused b.part (number_of cause) (subst (λ k. RefusesLine (drop at l) n k (number_of cause)) b.count_is r)

  pub body_end : (a : BuchiMasks) (r : Result BuchiMasks Refusal) → (a.states ≡ n) × (a.start ≡ s) × (a.marked ≡ marked) × (a.edges ≡ edges) → count ≡ n → TakesLine (drop at l) end_line 8
      → at + 8 ≤ length l → FinishesFile l (at + 8) a r → TellsFile l r
  body_end a r is h (stands, length_is) room (more, all) = ⊎_elim beyond whole (lt_or_le (at + 8) (length l))
    where
      every : length b.states ≡ n
      every = sym b.count_is ∙ h

      beyond : at + 8 < length l → TellsFile l r
      beyond g = rw (more g) (part_more b.part every stands g)

      whole : length l ≤ at + 8 → TellsFile l r
      whole g = rw (all g) (record { start = s; states = b.states }, part_end b.part every stands (omega arith), held)
        where
          held : InMasks (record { start = s; states = b.states }) a
          held = record { states_are = is.0 ∙ sym every; start_is = is.1; marked_are = rw is.2 b.marked_in; edges_are = rw is.3 b.edges_in }

-- the bytes of a line are within the file
pub line_within : (l next : List ℕ) (at length_of : ℕ) → at ≤ length l → TakesLine (drop at l) next length_of → (0 < length_of) × (at + length_of ≤ length l)
line_within l next at length_of h ((more, e), length_is) =
    let i : length (drop at l) ≡ length (line next) + length more = ap length e ∙ length-append (line next) more in
    let j : length (line next) ≡ length next + 1 = length-append next (10 ∷ []) in
    let k : length (drop at l) ≡ length l - at = length-drop at l in
    (omega arith, omega arith)

pub body_start : {l : List ℕ} {n s from : ℕ} → TakesHead l n s from → BodyRead l n s from 0 0 0
body_start h = record { states = []; part = part_start h; count_is = refl; marked_in = marked_none; edges_in = edges_none }
