-- Frames are about every machine that the arrays hold: that of the walk (`walk_frames`), those of a set with an open claim (`tour_frames`,
-- `pieces_frames`), and that of a claim, whose set is sought (`found_at`, `found_none`, `loop_frame`, `mix_frame`). `loop_round` and `mix_round`:
-- where the rounds stand.
use Prim.Native.Nat.{ℕ, ◌+◌, ◌-◌, ◌≤◌, ◌<◌}
use Rattle.std.specs.Prelude.{Option, None, Some}
use Rattle.std.proofs.lemmas.Option.{none-some}
use mathlib.Core.Path.{◌≡◌, refl, ap, sym, ◌∙◌, subst}
use mathlib.Core.Logic.{inl, inr, ⊎_elim, ◌↔◌}
use mathlib.Core.List.Memᴰ
use mathlib.Core.List.{List, ◌∷◌, ◌++◌}
use lib.ListN.{length, get_or, get_or-append}
use lib.Seq.{get_or-append-add}
use native.Mathlib.Omega.{arith}
use Rattle.lists.specs.Tests.{◌among◌}
use Rattle.masks.specs.Mask.{◌∈◌, ◌⊆◌}
use Rattle.masks.proofs.Member.{lt_or_le}
use Rattle.masks.proofs.Marking.{Marked}
use Rattle.rows.specs.Rows.{standing_sets}
use Rattle.rows.proofs.Sets.{sets_rise, set_place, set_fits}
use Rattle.orderings.specs.Steps.{Claim, loops, mixes, set_of, members, Struck, Unstruck}
use Rattle.orderings.specs.Claims.{Entrance, Exit}
use Rattle.orderings.proofs.Timelines.{members_iff}
use Rattle.orderings.proofs.Struck.{says_unstruck}
use Rattle.machine.specs.declared.Verdict.TheVariants.{NonEmpty}
use Rattle.machine.specs.declared.Phase.TheVariants.{Settled}
use Rattle.machine.specs.Machine.{Machine, open_claims}
use Rattle.machine.specs.Expression.{round_of, earlier}
use Rattle.machine.specs.Word as Word
use Rattle.machine.proofs.Grounded.{Grounded, grounded, round_most}
use Rattle.machine.proofs.Tours.{round_found, round_iff, round_below}
use Rattle.machine.proofs.Justified.{open_holds}
use Rattle.machine.proofs.Ending.{rounds_end}
use Rattle.search.specs.declared.Claims.{Claims}
use Rattle.search.specs.Graph.{Graph}
use Rattle.search.specs.Hops.{InnerClaims, all_mask}
use Rattle.search.specs.Masked.{Forced, Initials, Finals}
use Rattle.search.proofs.Accepting.{all_claims}
use Rattle.rounds.specs.Arrays.{rounds_of}
use Rattle.rounds.proofs.OpenClaims.{round_there, forced_by}
use Rattle.rounds.proofs.Noting.{rounds_length, rounds_past}
use Rattle.tours.specs.declared.frames.Shape.{Shape}
use Rattle.tours.specs.declared.frames.Shape.TheVariants.{Whole, Tour, Pieces}
use Rattle.tours.specs.declared.frames.Frame.{Frame}
use Rattle.tours.specs.Frames.{Held, claims_for, About, Framed}
use Rattle.expression.specs.Frames.{Noted, round_for, Frames, Before, OpenedBefore, SetFrame, FindsSet, LimitFrame, PlaceFrame}

-- a frame from its parts
frames_by : {m : Machine} {g : Graph} {k : ℕ} {r : Frame} (shape : Shape) (P : ℕ) → r.shape ≡ shape → r.set ≡ P
    → Framed m g k shape P r.starts r.ends r.force → r.round ≡ round_for m shape P → Frames m g k r
frames_by {m} {g} {k} {r} shape P e f framed rounded = record {
  framed = subst (λ (s : Shape). Framed m g k s r.set r.starts r.ends r.force) (sym e) (subst (λ (Q : ℕ). Framed m g k shape Q r.starts r.ends r.force) (sym f) framed);
  rounded = rounded ∙ (ap (round_for m shape) (sym f) ∙ ap (λ (s : Shape). round_for m s r.set) (sym e));
}

module _ {m : Machine} {g : Graph} {words : List ℕ} {n : ℕ} {back : Graph} {k : ℕ} (held : Held m g words n back k)
    {opened : List ℕ} (noted : Noted m opened) where
  abbrev set : ℕ → ℕ
  set i = get_or g.sets i 0

  abbrev ground : Grounded m.rows m.openings
  ground = grounded m held.formed

  few : length (standing_sets m.rows) ≤ 64
  few = held.formed.table.few_sets

  -- ---- where the rounds stand

  -- the claims of a kind from a place of the array on
  abbrev From : ℕ → (ℕ → Claim) → Type 0
  From base claim = (i : ℕ) → i < 64 → get_or opened (base + i) 0 ≡ get_or (rounds_of m claim) i 0

  from_loops : From 0 loops
  from_loops i h = let e : 0 + i ≡ i = omega arith in let s = rounds_length m few loops in
      ap (λ (l : List ℕ). get_or l (0 + i) 0) noted ∙ (ap (λ (j : ℕ). get_or (rounds_of m loops ++ rounds_of m mixes) j 0) e ∙ get_or-append (rounds_of m loops) (rounds_of m mixes) 0 i (omega (arith, s)))

  from_mixes : From 64 mixes
  from_mixes i h = ap (λ (l : List ℕ). get_or l (64 + i) 0) noted
      ∙ (ap (λ (j : ℕ). get_or (rounds_of m loops ++ rounds_of m mixes) (j + i) 0) (sym (rounds_length m few loops)) ∙ get_or-append-add (rounds_of m loops) (rounds_of m mixes) i 0)

  round_from : (base : ℕ) (claim : ℕ → Claim) → From base claim → (i : ℕ) → i < k → get_or opened (base + i) 0 ≡ round_of m.openings (claim (set i))
  round_from base claim f i h = f i (omega (arith, held.masked.few)) ∙ round_there m g.sets k held.masked.sets_are (sym held.count) claim i h

  past_from : (base : ℕ) (claim : ℕ → Claim) → From base claim → (i : ℕ) → i < 64 → 0 < get_or opened (base + i) 0 → i < k
  past_from base claim f i h o = ⊎_elim (λ l. l) (λ l. absurd (omega (arith, f i h, rounds_past m few claim i (omega (arith, held.count)) h, o))) (lt_or_le i k)

  -- the loop of the set at a place, and its mix
  pub loop_round : (i : ℕ) → i < k → get_or opened i 0 ≡ round_of m.openings (loops (set i))
  loop_round i h = let e : i ≡ 0 + i = omega arith in ap (λ (j : ℕ). get_or opened j 0) e ∙ round_from 0 loops from_loops i h

  pub mix_round : (i : ℕ) → i < k → get_or opened (64 + i) 0 ≡ round_of m.openings (mixes (set i))
  mix_round = round_from 64 mixes from_mixes

  -- there is none from the count of the sets on
  pub loop_below : (i : ℕ) → i < 64 → 0 < get_or opened i 0 → i < k
  loop_below i h o = let e : i ≡ 0 + i = omega arith in past_from 0 loops from_loops i h (subst (λ (j : ℕ). 0 < get_or opened j 0) e o)

  pub mix_below : (i : ℕ) → i < 64 → 0 < get_or opened (64 + i) 0 → i < k
  mix_below = past_from 64 mixes from_mixes

  -- a claim has a round just where it is open
  pub open_iff : (c : Claim) → (0 < round_of m.openings c) ↔ c among open_claims m
  open_iff = round_iff m.openings ground.low

  -- one that is done, and none beyond the 129th
  pub round_done : (c : Claim) → round_of m.openings c ≤ m.rounds
  round_done c = ⊎_elim (λ p. omega (arith, p.1)) (round_most m held.formed _) (round_found c m.openings)

  round_few : (c : Claim) → round_of m.openings c < 130
  round_few c = omega (arith, round_done c, (rounds_end m held.formed).so_far)

  -- ---- the claims in force

  marked_from : (base : ℕ) (claim : ℕ → Claim) (round mask : ℕ) → From base claim → OpenedBefore opened base k round mask → Marked (λ i. Before round (get_or (rounds_of m claim) i 0)) mask k
  marked_from base claim round mask f o i = (
    (λ h. let p = (o i).0 h in (p.0, subst (Before round) (f i (omega (arith, p.0, held.masked.few))) p.1)),
    λ p. (o i).1 (p.0, subst (Before round) (sym (f i (omega (arith, p.0, held.masked.few)))) p.1),
  )

  force_before : (round : ℕ) (In : Claim → Type 0) → ((c : Claim) → Before round (round_of m.openings c) ↔ In c) → (before : Claims)
      → OpenedBefore opened 0 k round before.loops → OpenedBefore opened 64 k round before.mixes → Forced In g k before
  force_before round In iff before a b =
      forced_by m g k held.masked.sets_are (sym held.count) (Before round) In iff before (marked_from 0 loops round before.loops from_loops a) (marked_from 64 mixes round before.mixes from_mixes b)

  -- those opened before the round of a claim
  earlier_forced : (c : Claim) (before : Claims) → OpenedBefore opened 0 k (round_of m.openings c) before.loops
      → OpenedBefore opened 64 k (round_of m.openings c) before.mixes → Forced (λ d. d among earlier m.openings c) g k before
  unfolding earlier
  earlier_forced c before a b =
      force_before (round_of m.openings c) (λ d. d among earlier m.openings c) (round_below m.openings ground.once ground.low (round_of m.openings c)) before a b

  -- all that are open
  all_forced : (before : Claims) → OpenedBefore opened 0 k 130 before.loops → OpenedBefore opened 64 k 130 before.mixes → Forced (λ c. c among open_claims m) g k before
  all_forced before a b =
      force_before 130 (λ c. c among open_claims m) (λ c. ((λ h. (open_iff c).0 h.0), λ i. ((open_iff c).1 i, round_few c))) before a b

  inner_turned : (before : Claims) (P : ℕ) (force : Claims) → InnerClaims back before P force → InnerClaims g before P force
  inner_turned before P force h = record {
    loops_are = λ i. subst (λ (Q : ℕ). (i ∈ force.loops) ↔ ((i ∈ before.loops) × (Q ⊆ P))) (held.turned.sets_are i) (h.loops_are i);
    mixes_are = λ i. subst (λ (Q : ℕ). (i ∈ force.mixes) ↔ ((i ∈ before.mixes) × (Q ⊆ P))) (held.turned.sets_are i) (h.mixes_are i);
  }

  -- ---- the frames

  pub walk_frames : (before : Claims) (initials finals : ℕ) → OpenedBefore opened 0 k 130 before.loops → OpenedBefore opened 64 k 130 before.mixes
      → m.phase ≡ Settled NonEmpty → Initials m.rows initials → Finals m.rows finals
      → (low : (q : ℕ) → Whole ≡ Tour q → q < 64)
      → Frames m g k (record { shape = Whole; set = all_mask; starts = initials; ends = finals; force = before; round = 130; low = low })
  walk_frames before initials finals a b settled i f low = record {
    framed = record { about = (refl, i, f, settled); all = before; forced = all_forced before a b; inner = all_claims g before };
    rounded = refl;
  }

  -- a set with a claim that is open
  set_frames : (i : ℕ) (shape : Shape) (c : Claim) (r : Frame) → i < k → claims_for m shape (set i) ≡ earlier m.openings c → round_for m shape (set i) ≡ round_of m.openings c
      → About m shape (set i) r.starts r.ends → SetFrame back k opened shape i (round_of m.openings c) r → Frames m g k r
  set_frames i shape c r h claims round about s = frames_by shape (set i) s.shape_is (s.set_is ∙ held.turned.sets_are i) (record {
    about = about;
    all = s.before;
    forced = subst (λ (l : List Claim). Forced (λ d. d among l) g k s.before) (sym claims) (earlier_forced c s.before s.loops_before s.mixes_before);
    inner = inner_turned s.before (set i) r.force (subst (λ (P : ℕ). InnerClaims back s.before P r.force) (held.turned.sets_are i) s.inner);
  }) (s.round_is ∙ sym round)

  tour_frames : (i q : ℕ) (r : Frame) → i < k → q ∈ set i → loops (set i) among open_claims m → SetFrame back k opened (Tour q) i (get_or opened i 0) r → Frames m g k r
  tour_frames i q r h q_in o s = set_frames i (Tour q) (loops (set i)) r h refl refl (q_in, o) (subst (λ (j : ℕ). SetFrame back k opened (Tour q) i j r) (loop_round i h) s)

  -- no state of a set with an open claim is struck
  unstruck : (c : Claim) → c among open_claims m → (s : ℕ) → s ∈ set_of c → Unstruck m.rows (s ∷ members (set_of c))
  unstruck c o s h t j = ⊎_elim (λ e. free t (subst (λ (x : ℕ). x ∈ set_of c) (sym e) h)) (λ i. free t ((members_iff (set_of c) t).0 i)) (Memᴰ.cases_cons j)
    where
      free : (x : ℕ) → x ∈ set_of c → ¬ Struck m.rows x
      free = says_unstruck m.rows (Word.Before m.openings c) c (open_holds m.rows m.openings ground c o).1

  -- so limits as the masks have them are its entrances and exits
  module _ (i : ℕ) (h : i < k) (o : mixes (set i) among open_claims m) where
    entrances : (starts : ℕ) → ((s : ℕ) → (s ∈ starts) ↔ ((s ∈ get_or back.rights i 0) × (s ∈ get_or back.sets i 0))) → (s : ℕ) → (s ∈ starts) ↔ Entrance m.rows (set i) s
    entrances starts is s = (
      (λ j. let p = (is s).0 j in (subst (λ (Q : ℕ). s ∈ Q) (held.turned.sets_are i) p.1, ((held.masked.left_iff i s h).0 (subst (λ (Q : ℕ). s ∈ Q) (held.turned.rights_are i) p.0)).0)),
      λ p. (is s).1 (
        subst (λ (Q : ℕ). s ∈ Q) (sym (held.turned.rights_are i)) ((held.masked.left_iff i s h).1 (p.1, unstruck (mixes (set i)) o s p.0)),
        subst (λ (Q : ℕ). s ∈ Q) (sym (held.turned.sets_are i)) p.0,
      ),
    )

    exits : (ends : ℕ) → ((s : ℕ) → (s ∈ ends) ↔ ((s ∈ get_or back.lefts i 0) × (s ∈ get_or back.sets i 0))) → (s : ℕ) → (s ∈ ends) ↔ Exit m.rows (set i) s
    exits ends is s = (
      (λ j. let p = (is s).0 j in (subst (λ (Q : ℕ). s ∈ Q) (held.turned.sets_are i) p.1, ((held.masked.right_iff i s h).0 (subst (λ (Q : ℕ). s ∈ Q) (held.turned.lefts_are i) p.0)).0)),
      λ p. (is s).1 (
        subst (λ (Q : ℕ). s ∈ Q) (sym (held.turned.lefts_are i)) ((held.masked.right_iff i s h).1 (p.1, unstruck (mixes (set i)) o s p.0)),
        subst (λ (Q : ℕ). s ∈ Q) (sym (held.turned.sets_are i)) p.0,
      ),
    )

    pieces_frames : (r : Frame) → SetFrame back k opened Pieces i (get_or opened (64 + i) 0) r → Frames m g k r
    pieces_frames r s = set_frames i Pieces (mixes (set i)) r h refl refl (o, entrances r.starts s.starts_are, exits r.ends s.ends_are)
        (subst (λ (j : ℕ). SetFrame back k opened Pieces i j r) (mix_round i h) s)

  -- ---- a set that is sought

  -- that of an open claim is found
  found_set : (c : Claim) → c among open_claims m → (r : Option ℕ) → FindsSet back.sets k (set_of c) r → (i : ℕ) × (r ≡ Some i) × (i < k) × (set i ≡ set_of c)
  found_set c o r f =
      let p = set_place m.rows g.sets k held.masked.sets_are (set_of c) (open_holds m.rows m.openings ground c o).0 in
      let up = sets_rise m.rows g.sets k held.masked.sets_are (sym held.count) in
      (p.0, f (λ x y a b. omega (arith, up x y a b, held.turned.sets_are x, held.turned.sets_are y)) p.0 p.1 (held.turned.sets_are p.0 ∙ sym p.2), p.1, sym p.2)

  pub found_at : (c : Claim) → c among open_claims m → (i : ℕ) → FindsSet back.sets k (set_of c) (Some i) → (i < k) × (set i ≡ set_of c)
  found_at c o i f =
      let p = found_set c o (Some i) f in
      let e : i ≡ p.0 = cc in
      (omega (arith, e, p.2), ap (λ (j : ℕ). set j) e ∙ p.3)

  pub found_none : (c : Claim) → c among open_claims m → ¬ FindsSet back.sets k (set_of c) None
  found_none c o f = none-some _ (found_set c o None f).1

  tour_claim : (q P i : ℕ) (r : Frame) → q ∈ P → loops P among open_claims m → FindsSet back.sets k P (Some i) → SetFrame back k opened (Tour q) i (get_or opened i 0) r
      → Frames m g k r × (r.shape ≡ Tour q) × (r.set ≡ P)
  tour_claim q P i r q_in o f s = let p = found_at (loops P) o i f in (
    tour_frames i q r p.0 (subst (λ (Q : ℕ). q ∈ Q) (sym p.1) q_in) (subst (λ (Q : ℕ). loops Q among open_claims m) (sym p.1) o) s,
    s.shape_is,
    s.set_is ∙ (held.turned.sets_are i ∙ p.1),
  )

  pieces_claim : (P i : ℕ) (r : Frame) → mixes P among open_claims m → FindsSet back.sets k P (Some i) → SetFrame back k opened Pieces i (get_or opened (64 + i) 0) r
      → Frames m g k r × (r.shape ≡ Pieces) × (r.set ≡ P)
  pieces_claim P i r o f s = let p = found_at (mixes P) o i f in (
    pieces_frames i p.0 (subst (λ (Q : ℕ). mixes Q among open_claims m) (sym p.1) o) r s,
    s.shape_is,
    s.set_is ∙ (held.turned.sets_are i ∙ p.1),
  )

-- ---- a claim

module _ (b : Graph) (k : ℕ) (opened : List ℕ) (P i : ℕ) (r : Frame) (f : FindsSet b.sets k P (Some i)) where
  pub loop_frame : (q : ℕ) → SetFrame b k opened (Tour q) i (get_or opened i 0) r → LimitFrame b k opened (Tour q) P (Some r)
  loop_frame q s m g words n held noted o = tour_claim held noted q P i r o.0 o.1 f s

  pub mix_frame : SetFrame b k opened Pieces i (get_or opened (64 + i) 0) r → LimitFrame b k opened Pieces P (Some r)
  mix_frame s m g words n held noted o = pieces_claim held noted P i r o f s

-- its set is one of the machine's
pub no_loop : (b : Graph) (k : ℕ) (opened : List ℕ) (P q : ℕ) → FindsSet b.sets k P None → LimitFrame b k opened (Tour q) P None
no_loop b k opened P q f m g words n held noted o = found_none held noted (loops P) o.1 f

pub no_mix : (b : Graph) (k : ℕ) (opened : List ℕ) (P : ℕ) → FindsSet b.sets k P None → LimitFrame b k opened Pieces P None
no_mix b k opened P f m g words n held noted o = found_none held noted (mixes P) o f

-- ---- the claim at a place of the array

module _ (b : Graph) (k : ℕ) (opened : List ℕ) (slot : ℕ) where
  pub tour_place : (r : Frame) (q : ℕ) → slot < 64 → q ∈ get_or b.sets slot 0 → SetFrame b k opened (Tour q) slot (get_or opened slot 0) r → PlaceFrame b k opened slot (Some r)
  tour_place r q h j s m g words n held noted o = let l = loop_below held noted slot h o in (
    tour_frames held noted slot q r l (subst (λ (Q : ℕ). q ∈ Q) (held.turned.sets_are slot) j) ((open_iff held noted _).0 (omega (arith, o, loop_round held noted slot l))) s,
    inl (q, h, s.shape_is, s.set_is ∙ held.turned.sets_are slot),
  )

  -- no set is 0
  pub none_place : slot < 64 → get_or b.sets slot 0 ≡ 0 → PlaceFrame b k opened slot None
  none_place h e m g words n held noted o =
      let l = loop_below held noted slot h o in
      let c = loops (get_or g.sets slot 0) in
      let open_here : c among open_claims m = (open_iff held noted c).0 (omega (arith, o, loop_round held noted slot l)) in
      absurd (omega (arith, e, held.turned.sets_are slot, (set_fits m.rows held.formed.table.fit (set_of c) (open_holds m.rows m.openings (grounded m held.formed) c open_here).0).0))

  pub pieces_place : (r : Frame) → 64 ≤ slot → slot < 128 → SetFrame b k opened Pieces (slot - 64) (get_or opened slot 0) r → PlaceFrame b k opened slot (Some r)
  pieces_place r h h' s m g words n held noted o =
      let e : slot ≡ 64 + (slot - 64) = omega arith in
      let o' = subst (λ (x : ℕ). 0 < get_or opened x 0) e o in
      let l = mix_below held noted (slot - 64) (omega arith) o' in (
        pieces_frames held noted (slot - 64) l ((open_iff held noted _).0 (omega (arith, o', mix_round held noted (slot - 64) l))) r
            (subst (λ (x : ℕ). SetFrame b k opened Pieces (slot - 64) (get_or opened x 0) r) e s),
        inr (slot - 64, e, s.shape_is, s.set_is ∙ held.turned.sets_are (slot - 64)),
      )
