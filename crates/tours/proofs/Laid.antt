-- A leg that is laid: on any arrays it fits them (`one_few`, `zero_few`); of every machine that the arrays hold it is the first of the
-- shortest walks, and goes down its layers (`one_lies`, `zero_lies`), the sheet's walk (`whole_down`) and the walks of a tour (`between_down`).
use Prim.Native.Nat.{ℕ, ◌-◌, ◌≤◌}
use mathlib.Core.Path.{◌≡◌, refl, sym, subst, ◌∙◌}
use mathlib.Core.Bool.{◌||◌}
use mathlib.Core.Logic.{◌⊎◌, inl, inr, ⊎_elim}
use mathlib.Core.Option.{some}
use mathlib.Core.List.{List, [], ◌++◌, append-nil}
use native.Mathlib.Omega.{arith}
use lib.Dec.{eqb}
use lib.ListN.{length, take, drop, length-append, length-drop, drop_of_length-le, get_or-append}
use lib.Seq.{length-take-le, drop_at, get_or-take}
use Rattle.lists.specs.Tests.{◌among◌}
use Rattle.masks.specs.Mask.{member, ◌∈◌}
use Rattle.masks.proofs.Member.{with_same, with_none}
use Rattle.orderings.specs.Steps.{Claim, loops, set_of, Walk, Leads}
use Rattle.orderings.specs.Timelines.{timelines}
use Rattle.orderings.proofs.Walks.{allowed_more}
use Rattle.orderings.proofs.Struck.{says_unstruck}
use Rattle.machine.specs.declared.Verdict.TheVariants.{NonEmpty}
use Rattle.machine.specs.declared.Phase.TheVariants.{Settled}
use Rattle.machine.specs.Machine.{Machine, open_claims}
use Rattle.machine.specs.Order.{Found, Candidate, Foremost, Best}
use Rattle.machine.specs.Search.{shortest}
use Rattle.machine.specs.Expression.{walk_in, earlier}
use Rattle.machine.specs.Word.{Before, found, Between, Nearest}
use Rattle.machine.proofs.Walks.{foremost_unique, foremost_of}
use Rattle.machine.proofs.Statements.{printed_walk}
use Rattle.machine.proofs.Grounded.{Grounded, grounded}
use Rattle.machine.proofs.Justified.{earlier_before, open_holds, near}
use Rattle.machine.proofs.Legs.{Leading, here_foremost, stepping_foremost, stepping_none}
use Rattle.search.specs.declared.Claims.{Claims}
use Rattle.search.specs.Graph.{Graph}
use Rattle.search.specs.Hops.{all_mask}
use Rattle.search.specs.Masked.{Initials, Finals}
use Rattle.search.specs.Promises.{Stands}
use Rattle.walks.specs.Layers.{Ahead}
use Rattle.row_table.specs.Letters.{LettersIn}
use Rattle.walks.specs.Choices.{Way, SetsRise}
use Rattle.walks.specs.Walks.{Courses, Descends}
use Rattle.walks.proofs.Standing.{Free, sets_rise_in}
use Rattle.walks.proofs.Courses.{lay_none, lay_foremost}
use Rattle.walks.proofs.Answers.{to_leading, leading_best, final_free}
use Rattle.tours.specs.declared.frames.Shape.{Shape}
use Rattle.tours.specs.declared.frames.Shape.TheVariants.{Whole, Tour}
use Rattle.walks.specs.declared.found.Leg.{Leg}
use Rattle.tours.specs.Frames.{Held, Framed, claims_for, neighbour}
use Rattle.tours.specs.Laid.{KeptBelow, OneOrMore, ZeroOrMore}

-- ---- any arrays

-- what is written from a place on leaves the layers before it
pub kept_part : (old part : List ℕ) (at : ℕ) → at ≤ length old → length part ≡ length (take (length old - at) (drop at old))
    → let new = take at old ++ (part ++ drop (length old - at) (drop at old)) in KeptBelow at old new × (drop at new ≡ part)
kept_part old part at h e =
    let none : drop (length old - at) (drop at old) ≡ [] = drop_of_length-le (drop at old) {i = length old - at} (omega (arith, length-drop at old)) in
    let front : length (take at old) ≡ at = length-take-le at old h in
    let rest : length part ≡ length old - at = e ∙ length-take-le (length old - at) (drop at old) (omega (arith, length-drop at old)) in
    rw (none, append-nil part) (
      record {
        length_is = omega (arith, length-append (take at old) part);
        stay = λ i l. get_or-append (take at old) part 0 i (omega arith) ∙ get_or-take at old i 0 l;
      },
      drop_at (take at old) part at front,
    )

module _ (E : ℕ → ℕ → Type 0) (starts ends : ℕ) (layers : List ℕ) (r : Leg) where
  -- a leg that is laid is of few steps
  pub one_few : (s : ℕ) → OneOrMore E starts ends s layers r → r.steps ≤ 64
  one_few s o = ⊎_elim (λ l. l.few) (λ n. omega (arith, n.1)) o

  pub zero_few : ZeroOrMore E starts ends layers r → r.steps ≤ 64
  zero_few o = ⊎_elim (λ z. omega (arith, z.0)) (λ n. one_few 0 n.1) o

-- the walk goes down the layers of the leg, by the first step into each
abbrev pub DownFrom : List ℕ → ℕ → Graph → Claims → List ℕ → ℕ → ℕ → Walk → Type 0
DownFrom words n back force layers start steps w = Descends (Way words n back force) (SetsRise back force) layers start steps w

abbrev pub Down : List ℕ → ℕ → Graph → Claims → List ℕ → Leg → Walk → Type 0
Down words n back force layers r w = DownFrom words n back force layers r.start r.steps w

-- the first of the shortest is one: what goes down is the walk that was asked for
pub down_same : (D : Walk → Type 0) (C : Found → Type 0) → ((f : Found) → C f → (b : ℕ) × Leads f.start f.walk b) → (f g : Found) → Foremost C f → Foremost C g → D f.walk → D g.walk
down_same D C leads f g b d h = subst (λ (x : Found). D x.walk) (foremost_unique C leads f g b d) h

module _ {m : Machine} {g back : Graph} {words : List ℕ} {n k : ℕ} (held : Held m g words n back k)
    {shape : Shape} {P starts ends : ℕ} {force : Claims} (framed : Framed m g k shape P starts ends force) where
  abbrev claims : List Claim
  claims = claims_for m shape P

  stands : Stands g framed.all m.rows claims k
  stands = record { masked = held.masked; forced = framed.forced }

  letters : LettersIn m.rows words n
  letters = held.letters

  ordered : SetsRise back force
  ordered = sets_rise_in held.turned stands held.count held.letters framed.inner

  -- walks inside P of zero or more steps
  abbrev pub Ways : ℕ → ℕ → Found → Type 0
  Ways from to = Leading m.rows (λ c. c among claims) P (λ t. t ∈ from) (λ t. t ∈ to)

  -- and of one or more
  abbrev pub Goes : ℕ → ℕ → Found → Type 0
  Goes from to = Courses m.rows claims P from to

  -- the leg is the first of the shortest of some walks
  abbrev pub Lies : (Found → Type 0) → List ℕ → Leg → Type 0
  Lies C layers r = (w : Walk) × Down words n back force layers r w × Foremost C (found r.start w) × (length w ≡ r.steps)

  -- it is of one or more steps; or there is none, and it has no steps at s
  abbrev pub Laid : ℕ → ℕ → ℕ → List ℕ → Leg → Type 0
  Laid from to s layers r = ((1 ≤ r.steps) × Lies (Goes from to) layers r) ⊎ ((r.start ≡ s) × (r.steps ≡ 0) × ((f : Found) → ¬ Goes from to f))

  module _ (from to : ℕ) (layers : List ℕ) (r : Leg) (free : (t : ℕ) → t ∈ to → Free m.rows P t) where
    -- where no end is struck, what is laid is the first of the shortest
    pub one_lies : (s : ℕ) → OneOrMore (Ahead back force P) from to s layers r → Laid from to s layers r
    one_lies s o = ⊎_elim
        (λ l. inl (l.some, lay_foremost held.turned stands held.count letters framed.inner ordered from to layers r.start r.steps l free))
        (λ z. inr (z.0, z.1, lay_none held.turned stands held.count letters framed.inner ordered from to layers z.2)) o

    -- and so it is of zero or more steps, or there is none
    pub zero_lies : ZeroOrMore (Ahead back force P) from to layers r → Lies (Ways from to) layers r ⊎ ((f : Found) → ¬ Ways from to f)
    unfolding Descends
    zero_lies o = ⊎_elim
        (λ z. inl ([], rw z.0 refl, here_foremost m.rows (λ c. c among claims) P (λ t. t ∈ from) (λ t. t ∈ to) r.start z.1 z.2 z.3, sym z.0))
        (λ x. ⊎_elim
        (λ l. let h = l.1 in inl (h.0, h.1, stepping_foremost m.rows (λ c. c among claims) P (λ t. t ∈ from) (λ t. t ∈ to) x.0 (found r.start h.0) h.2, h.3))
        (λ z. inr (stepping_none m.rows (λ c. c among claims) P (λ t. t ∈ from) (λ t. t ∈ to) x.0 z.2))
        (one_lies 0 x.1)) o

  -- of the set of an open claim no state is struck
  pub open_free : (c : Claim) → c among open_claims m → (s : ℕ) → s ∈ set_of c → Free m.rows (set_of c) s
  open_free c i s h = (h, says_unstruck m.rows (Before m.openings c) c (open_holds m.rows m.openings (grounded m held.formed) c i).1 s h)

-- ---- the sheet's walk

module _ {m : Machine} {g back : Graph} {words : List ℕ} {n k : ℕ} (held : Held m g words n back k)
    {P starts ends : ℕ} {force : Claims} (framed : Framed m g k Whole P starts ends force) where
  abbrev about : (P ≡ all_mask) × Initials m.rows starts × Finals m.rows ends × (m.phase ≡ Settled NonEmpty)
  about = framed.about

  -- the walk that is printed, which there is
  abbrev printed : (f : Found) × (shortest m.rows (open_claims m) ≡ some f) × Best m.rows (open_claims m) f × (length f.walk ≤ 63)
  printed = printed_walk m held.formed about.3

  -- from an initial to a final state, inside a set
  abbrev Within : ℕ → Found → Type 0
  Within p = Leading m.rows (λ c. c among open_claims m) p (λ t. t ∈ starts) (λ t. t ∈ ends)

  sheet_best : (f : Found) → Foremost (Within P) f → Best m.rows (open_claims m) f
  sheet_best f h = leading_best m.rows (open_claims m) starts ends about.1 about.2 held.formed.table f (subst (λ (p : ℕ). Foremost (Within p) f) about.0 h)

  sheet_is : Within P printed.0
  sheet_is = subst (λ (p : ℕ). Within p printed.0) (sym about.0)
      (to_leading m.rows (open_claims m) starts ends about.1 about.2 held.formed.table printed.0 printed.2.is)

  ends_free : (t : ℕ) → t ∈ ends → Free m.rows P t
  ends_free t h = subst (λ (p : ℕ). Free m.rows p t) (sym about.0) (final_free m.rows (open_claims m) starts ends about.1 about.2 held.formed.table t h)

  -- down the layers the leg is the sheet's walk
  pub whole_down : (layers : List ℕ) (r : Leg) → ZeroOrMore (Ahead back force P) starts ends layers r → Down words n back force layers r (walk_in (shortest m.rows (open_claims m)))
  whole_down layers r o = by (zero_lies held framed starts ends layers r ends_free o)
    where
      by : Lies held framed (Within P) layers r ⊎ ((f : Found) → ¬ Within P f) → Down words n back force layers r (walk_in (shortest m.rows (open_claims m)))
      by (inr none) = absurd (none printed.0 sheet_is)
      by (inl (w, d, f, size)) = let g = found r.start w in
          rw printed.1 (down_same (Down words n back force layers r) (Candidate m.rows (open_claims m)) (λ f c. (c.1.0, c.1.2)) g printed.0 (sheet_best g f) printed.2 d)

-- ---- a set that loops

module _ {m : Machine} {g back : Graph} {words : List ℕ} {n k : ℕ} (held : Held m g words n back k)
    {q P starts ends : ℕ} {force : Claims} (framed : Framed m g k (Tour q) P starts ends force) where
  abbrev ground : Grounded m.rows m.openings
  ground = grounded m held.formed

  -- the claims of the list are those opened in earlier rounds
  listed : (d : Claim) → d among earlier m.openings (loops P) → Before m.openings (loops P) d
  listed d = (earlier_before m.rows m.openings ground (loops P) framed.about.1 d).0

  in_list : (d : Claim) → Before m.openings (loops P) d → d among earlier m.openings (loops P)
  in_list d = (earlier_before m.rows m.openings ground (loops P) framed.about.1 d).1

  -- the sets from and to have a alone and b alone
  module _ (a b : ℕ) (ha : a ∈ P) (hb : b ∈ P) (from to : ℕ)
      (is_from : (t : ℕ) → member t from ≡ (member t 0 || eqb t a)) (is_to : (t : ℕ) → member t to ≡ (member t 0 || eqb t b)) where
    to_between : (f : Found) → Goes held framed from to f → Between m.rows m.openings P a b f
    to_between f c = (
      with_none a from is_from f.start c.0,
      subst (Leads f.start f.walk) (with_none b to is_to c.1.0 c.1.1) c.1.2,
      (c.2, allowed_more (timelines m.rows) listed f.walk c.3, c.4),
    )

    of_between : (f : Found) → Between m.rows m.openings P a b f → Goes held framed from to f
    of_between f c = (
      subst (λ (x : ℕ). x ∈ from) (sym c.0) (with_same 0 a from is_from),
      (b, with_same 0 b to is_to, c.1),
      c.2.0,
      allowed_more (timelines m.rows) in_list f.walk c.2.1,
      c.2.2,
    )

    nearest : Nearest m.rows m.openings P a b (neighbour P a b m)
    nearest = near m.rows m.openings ground P framed.about.1 a b ha hb

    -- down the layers the leg is the walk from a to its neighbour b
    pub between_down : (s : ℕ) (layers : List ℕ) (r : Leg) → OneOrMore (Ahead back force P) from to s layers r → Down words n back force layers r (neighbour P a b m)
    between_down s layers r o = ⊎_elim
        (λ l. let h = l.1 in let f = found r.start h.0 in
        down_same (Down words n back force layers r) (Between m.rows m.openings P a b) (λ f c. (b, c.1)) f (found a (neighbour P a b m)) (foremost_of f to_between of_between h.2) nearest h.1)
        (λ z. absurd (z.2 (found a (neighbour P a b m)) (of_between (found a (neighbour P a b m)) nearest.is)))
        (one_lies held framed from to layers r (λ t h. open_free held framed (loops P) framed.about.1 t (subst (λ (x : ℕ). x ∈ P) (sym (with_none b to is_to t h)) hb)) s o)
