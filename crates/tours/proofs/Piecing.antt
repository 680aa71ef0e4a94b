-- The piece for a state goes down the layers that are laid for it: to the state and on from it (`through_down`), or where it is an entrance and an exit
-- the first of those to it and those from it (`gap_to_down`, `gap_from_down`), for every machine that the arrays hold.
use Prim.Native.Nat.{ℕ, ◌+◌, ◌≤◌, ◌<◌}
use mathlib.Core.Path.{◌≡◌, sym, subst, ◌∙◌}
use mathlib.Core.Bool.{not, ◌&&◌, ◌||◌}
use mathlib.Core.Logic.{◌⊎◌, inl, inr, ⊎_elim, ◌≢◌}
use mathlib.Core.List.{List, [], ◌++◌, append-eq-nil_iff}
use native.Mathlib.Omega.{arith}
use lib.Dec.{eqb}
use lib.ListN.{length, drop}
use Rattle.lists.specs.Tests.{◌among◌, gather}
use Rattle.lists.proofs.Sorting.{before_decides}
use Rattle.masks.specs.Mask.{member, ◌∈◌}
use Rattle.masks.proofs.Member.{lt_or_le, with_same, with_none, difference_left, difference_not, difference_cases}
use Rattle.orderings.specs.Steps.{Claim, mixes, Walk, Leads}
use Rattle.orderings.specs.Timelines.{timelines}
use Rattle.orderings.proofs.Walks.{allowed_more}
use Rattle.machine.specs.Machine.{Machine}
use Rattle.machine.specs.Order.{step_key, Found, Foremost}
use Rattle.machine.specs.Expression.{earlier}
use Rattle.machine.specs.Word.{Before, found, PieceBy, PieceFor}
use Rattle.machine.proofs.Walks.{foremost_of}
use Rattle.machine.proofs.Grounded.{Grounded, grounded}
use Rattle.machine.proofs.Justified.{earlier_before, piece_for}
use Rattle.machine.proofs.Legs.{Passing, through_none, through_foremost, gap_none, gap_to, gap_from}
use Rattle.search.specs.declared.Claims.{Claims}
use Rattle.search.specs.Graph.{Graph}
use Rattle.walks.specs.Layers.{Ahead}
use Rattle.walks.specs.Choices.{Way, SetsRise}
use Rattle.walks.specs.Walks.{Descends}
use Rattle.walks.proofs.Standing.{Free}
use Rattle.walks.proofs.Descending.{descends_append, descends_same}
use Rattle.tours.specs.declared.frames.Shape.TheVariants.{Pieces}
use Rattle.walks.specs.declared.found.Leg.{Leg}
use Rattle.tours.specs.Frames.{Held, Framed, piece_of}
use Rattle.tours.specs.Laid.{KeptBelow, OneOrMore, ZeroOrMore, ComesFirst}
use Rattle.tours.proofs.Laid.{DownFrom, Down, down_same, Ways, Goes, Lies, Laid, one_lies, zero_lies, open_free}

module _ {m : Machine} {g back : Graph} {words : List ℕ} {n k : ℕ} (held : Held m g words n back k)
    {P starts ends : ℕ} {force : Claims} (framed : Framed m g k Pieces P starts ends force) (s : ℕ) (here : s ∈ P) where
  abbrev ground : Grounded m.rows m.openings
  ground = grounded m held.formed

  abbrev In : Claim → Type 0
  In c = c among earlier m.openings (mixes P)

  -- the claims of the list are those opened in earlier rounds
  listed : (d : Claim) → In d → Before m.openings (mixes P) d
  listed d = (earlier_before m.rows m.openings ground (mixes P) framed.about.0 d).0

  in_list : (d : Claim) → Before m.openings (mixes P) d → In d
  in_list d = (earlier_before m.rows m.openings ground (mixes P) framed.about.0 d).1

  -- the pieces by way of s, as the masks have them
  abbrev Pass : Found → Type 0
  Pass = Passing m.rows In P s (λ t. t ∈ starts) (λ t. t ∈ ends)

  to_piece : (f : Found) → Pass f → PieceBy m.rows m.openings P s f
  to_piece f c = (
    (framed.about.1 f.start).0 c.0,
    (c.1.0, (framed.about.2 c.1.0).0 c.1.1, c.1.2),
    c.2,
    (c.3.0, allowed_more (timelines m.rows) listed f.walk c.3.1, c.3.2),
  )

  of_piece : (f : Found) → PieceBy m.rows m.openings P s f → Pass f
  of_piece f c = (
    (framed.about.1 f.start).1 c.0,
    (c.1.0, (framed.about.2 c.1.0).1 c.1.1, c.1.2),
    c.2,
    (c.3.0, allowed_more (timelines m.rows) in_list f.walk c.3.1, c.3.2),
  )

  the_piece : PieceFor m.rows m.openings P s (piece_of P s m)
  the_piece = piece_for m.rows m.openings ground P framed.about.0 s here

  -- the first of the shortest is the piece
  is_piece : (layers : List ℕ) (start steps : ℕ) (w : Walk) → Foremost Pass (found start w) → DownFrom words n back force layers start steps w
      → DownFrom words n back force layers start steps (piece_of P s m)
  is_piece layers start steps w h d = by the_piece
    where
      first : Foremost (PieceBy m.rows m.openings P s) (found start w)
      first = foremost_of (found start w) to_piece of_piece h

      by : PieceFor m.rows m.openings P s (piece_of P s m) → DownFrom words n back force layers start steps (piece_of P s m)
      by (inl f) = down_same (DownFrom words n back force layers start steps) (PieceBy m.rows m.openings P s) (λ f c. (c.1.0, c.1.2)) (found start w) (found f.0 (piece_of P s m)) first f.1 d
      by (inr z) = absurd (z.0 (found start w) first.is)

  -- without a piece by way of s, s is an entrance and an exit, and the piece has no steps
  no_piece : ((f : Found) → ¬ Pass f) → (s ∈ starts) × (s ∈ ends) × (piece_of P s m ≡ [])
  no_piece none = ⊎_elim (λ f. absurd (none (found f.0 (piece_of P s m)) (of_piece (found f.0 (piece_of P s m)) f.1.is)))
      (λ z. ((framed.about.1 s).1 z.1.0, (framed.about.2 s).1 z.1.1, z.2)) the_piece

  -- no state of the set is struck
  set_free : (t : ℕ) → t ∈ P → Free m.rows P t
  set_free t h = open_free held framed (mixes P) framed.about.0 t h

  exits_free : (t : ℕ) → t ∈ ends → Free m.rows P t
  exits_free t h = set_free t ((framed.about.2 t).0 h).0

  -- the set alone has s and no other state
  module _ (alone : ℕ) (is_alone : (t : ℕ) → member t alone ≡ (member t 0 || eqb t s)) where
    s_alone : s ∈ alone
    s_alone = with_same 0 s alone is_alone

    alone_s : (t : ℕ) → t ∈ alone → t ≡ s
    alone_s = with_none s alone is_alone

    alone_free : (t : ℕ) → t ∈ alone → Free m.rows P t
    alone_free t h = set_free t (subst (λ (x : ℕ). x ∈ P) (sym (alone_s t h)) here)

    -- s is not both an entrance and an exit: the walk on from s, and above its layers those of the walk to s
    pub through_down : (s ∈ starts → s ∈ ends → ⊥) → (layers new : List ℕ) (on to : Leg) → ZeroOrMore (Ahead back force P) alone ends layers on → KeptBelow on.steps layers new
        → ZeroOrMore (Ahead back force P) starts alone (drop on.steps new) to → DownFrom words n back force new to.start (to.steps + on.steps) (piece_of P s m)
    through_down apart layers new on to o kept t = by (zero_lies held framed alone ends layers on exits_free o) (zero_lies held framed starts alone (drop on.steps new) to alone_free t)
      where
        never : ((f : Found) → ¬ Pass f) → ⊥
        never none = let z = no_piece none in apart z.0 z.1

        by : Lies held framed (Ways held framed alone ends) layers on ⊎ ((f : Found) → ¬ Ways held framed alone ends f)
            → Lies held framed (Ways held framed starts alone) (drop on.steps new) to ⊎ ((f : Found) → ¬ Ways held framed starts alone f)
            → DownFrom words n back force new to.start (to.steps + on.steps) (piece_of P s m)
        by (inr none) t = absurd (never (through_none m.rows In P (λ t. t ∈ starts) (λ t. t ∈ ends) (λ t. t ∈ alone) s alone_s s_alone (inr none)))
        by (inl a) (inr none) = absurd (never (through_none m.rows In P (λ t. t ∈ starts) (λ t. t ∈ ends) (λ t. t ∈ alone) s alone_s s_alone (inl none)))
        by (inl (w, d, f, size)) (inl (v, e, h, length_is)) =
            let at : on.start ≡ s = alone_s on.start f.is.0 in
            let leads : Leads to.start v s = subst (Leads to.start v) (alone_s h.is.1.0 h.is.1.1) h.is.1.2 in
            let some : v ++ w ≢ [] = λ z.
            let y = (append-eq-nil_iff {p = v} {q = w}).0 z in
            let a : to.start ≡ s = subst (λ (x : Walk). Leads to.start x s) y.0 leads in
            let b : on.start ≡ f.is.1.0 = subst (λ (x : Walk). Leads on.start x f.is.1.0) y.1 f.is.1.2 in
            apart (subst (λ (x : ℕ). x ∈ starts) a h.is.0) (subst (λ (x : ℕ). x ∈ ends) (sym b ∙ at) f.is.1.1) in
            is_piece new to.start (to.steps + on.steps) (v ++ w)
            (through_foremost m.rows In P (λ t. t ∈ starts) (λ t. t ∈ ends) (λ t. t ∈ alone) s alone_s s_alone (found to.start v) (found on.start w) h f some)
            (descends_append (Way words n back force) (SetsRise back force) new on.steps s w
            (descends_same (Way words n back force) (SetsRise back force) layers new on.steps s w (λ i l. sym (kept.stay i l))
            (subst (λ (x : ℕ). Descends (Way words n back force) (SetsRise back force) layers x on.steps w) at d)) to.steps to.start v e leads)

    -- s is an entrance and an exit, and others are the other entrances
    module _ (enters : s ∈ starts) (leaves : s ∈ ends) (others : ℕ) (is_others : (t : ℕ) → member t others ≡ (member t starts && not (member t alone))) where
      but : (t : ℕ) → t ∈ others → (t ∈ starts) × (t ≢ s)
      but t h = (difference_left starts alone others is_others t h, λ e. difference_not starts alone others is_others t h (subst (λ (x : ℕ). x ∈ alone) (sym e) s_alone))

      other : (t : ℕ) → t ∈ starts → t ≢ s → t ∈ others
      other t h i = ⊎_elim (λ j. absurd (i (alone_s t j))) (λ j. j) (difference_cases starts alone others is_others t h)

      -- the leg on from s, and the leg to s from another entrance
      module _ (layers layers' : List ℕ) (on to : Leg) (o : OneOrMore (Ahead back force P) alone ends s layers on) (t : OneOrMore (Ahead back force P) others alone s layers' to) where
        on_lies : Laid held framed alone ends s layers on
        on_lies = one_lies held framed alone ends layers on exits_free s o

        to_lies : Laid held framed others alone s layers' to
        to_lies = one_lies held framed others alone layers' to alone_free s t

        -- the leg to s comes first
        pub gap_to_down : ComesFirst to on → Down words n back force layers' to (piece_of P s m)
        gap_to_down c = by to_lies
          where
            longer : (w : Walk) → length w ≡ to.steps → Laid held framed alone ends s layers on
                → (h : Found) → Goes held framed alone ends h → (length w ≤ length h.walk) × (length h.walk ≡ length w → to.start < s)
            longer w size (inr none) h i = absurd (none.2 h i)
            longer w size (inl (some, (v, d, f, length_is))) h i =
                let at : on.start ≡ s = alone_s on.start f.is.0 in
                let short : length v ≤ length h.walk = f.short h i in
                ⊎_elim (λ (z : on.steps ≡ 0). absurd (omega arith))
                (⊎_elim (λ (l : to.steps < on.steps). (omega arith, λ e. absurd (omega arith))) (λ e. (omega (arith, e.0), λ z. omega (arith, e.1)))) c.1

            by : Laid held framed others alone s layers' to → Down words n back force layers' to (piece_of P s m)
            by (inr none) = absurd (omega (arith, c.0, none.1))
            by (inl (some, (w, d, f, size))) = is_piece layers' to.start to.steps w
                (gap_to m.rows In P (λ t. t ∈ starts) (λ t. t ∈ ends) (λ t. t ∈ alone) s alone_s s_alone (λ t. t ∈ others) but other leaves (found to.start w) f (longer w size on_lies)) d

        -- it does not, and the leg on from s is laid once more
        pub gap_from_down : ¬ ComesFirst to on → (new : List ℕ) (r : Leg) → OneOrMore (Ahead back force P) alone ends s new r → Down words n back force new r (piece_of P s m)
        unfolding Descends
        gap_from_down c new r again = by on_lies to_lies (one_lies held framed alone ends new r exits_free s again)
          where
            longer : (u : Walk) → Foremost (Goes held framed alone ends) (found r.start u) → Laid held framed alone ends s layers on → Laid held framed others alone s layers' to
                → (h : Found) → Goes held framed others alone h → (length u ≤ length h.walk) × (length h.walk ≡ length u → s < h.start)
            longer u f on (inr none) h i = absurd (none.2 h i)
            longer u f (inr none) (inl t) h i = absurd (none.2 (found r.start u) f.is)
            longer u f (inl (some, (v, d, f', size))) (inl (some', (w, e, k, length_is))) h i =
                let at : on.start ≡ s = alone_s on.start f'.is.0 in
                let same : length u ≡ length v = omega (arith, f.short (found on.start v) f'.is, f'.short (found r.start u) f.is) in
                let short : length w ≤ length h.walk = k.short h i in
                let more : on.steps ≤ to.steps = ⊎_elim (λ l. absurd (c (some', inr (inl l)))) (λ l. l) (lt_or_le to.steps on.steps) in (
                  omega arith,
                  λ z.
                      let equal : to.steps ≡ on.steps = omega arith in
                      let above : s ≤ to.start = ⊎_elim (λ (l : to.start < s). absurd (c (some', inr (inr (equal, omega arith))))) (λ l. l) (lt_or_le to.start s) in
                      let apart : to.start ≢ s = (but to.start k.is.0).1 in
                      let first : to.start ≤ h.start = ⊎_elim
                      (λ (l : h.start < to.start). absurd (k.first h i (omega arith) ((before_decides h.start to.start (gather step_key h.walk) (gather step_key w)).of (inl l)))) (λ l. l)
                      (lt_or_le h.start to.start) in
                      omega arith,
                )

            by : Laid held framed alone ends s layers on → Laid held framed others alone s layers' to → Laid held framed alone ends s new r → Down words n back force new r (piece_of P s m)
            by a b (inl (some, (u, d, f, size))) = is_piece new r.start r.steps u
                (gap_from m.rows In P (λ t. t ∈ starts) (λ t. t ∈ ends) (λ t. t ∈ alone) s alone_s s_alone (λ t. t ∈ others) but other enters (found r.start u) f (longer u f a b)) d
            by (inl a) b (inr none) = absurd (none.2 (found on.start a.1.0) a.1.2.is)
            by (inr a) (inl b) (inr none) = absurd (c (b.0, inl a.1))
            by (inr a) (inr b) (inr none) = rw none.1 (no_piece
                (gap_none m.rows In P (λ t. t ∈ starts) (λ t. t ∈ ends) (λ t. t ∈ alone) s alone_s s_alone (λ t. t ∈ others) but other b.2 a.2)).2
