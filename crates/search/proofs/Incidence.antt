-- Which sets a state is in, and which have a limit of it: written part by part (`fills`, `indexing_more`, `turned_into`, `indexes`), in
-- the graph turned round too (`turns_into`, `turns_indexed`, `has_turned`, `turns`), what they tell (`has`, `meet`), and the steps by claims that
-- they give (`claims_lead`, `all_touched`).
use Prim.Native.Nat.{ℕ, ◌+◌, ◌≤◌, ◌<◌}
use mathlib.Core.Path.{◌≡◌, refl, ap, sym, subst, ◌∙◌}
use mathlib.Core.Bool.{◌&&◌, ◌||◌}
use mathlib.Core.Logic.{◌⊎◌, inl, inr, ⊎_elim}
use mathlib.Core.List.{List}
use lib.Dec.{eqb}
use lib.ListN.{length, get_or}
use borrow.Rule.Slice.PartMut.{put_mid}
use native.Mathlib.Omega.{arith}
use Rattle.std.proofs.Common.{rules}
use Rattle.std.proofs.lemmas.List.{places}
use Rattle.masks.specs.Graph.{Target, Targets, Turned}
use Rattle.masks.specs.Mask.{member, ◌∈◌}
use Rattle.masks.proofs.Member.{in_none, lt_or_le, member_lt, union_left, union_right, union_cases, intersection_left, intersection_right, intersection_both}
use Rattle.masks.proofs.Turning.{Sources, sources_none, sources_more, sources_some}
use Rattle.search.specs.declared.Claims.{Claims}
use Rattle.search.specs.Graph.{Graph, part, graph_of, TurnedGraph, Indexed, TurnsIndexed, HasTurned, Having, Meeting, Fills, PlaceAdded, PartIndexed, Indexes}
use Rattle.search.specs.Hops.{Claimed, BackOrMix, Touched, Onward}
use Rattle.search.proofs.Parts.{at_part, past_part, letters_at, part_length, part_stays, graph_stays}

-- ---- masks written over a part

pub fills : (old : List ℕ) (base k : ℕ) (masks : List ℕ) → length old ≡ 448 → base ≤ 384 → k ≡ 64 → length masks ≡ 64 → Fills old base masks (put_mid base k old masks)
fills old base k masks size low e many = record {
  length_is = search (rules, places);
  filled = λ j h. search (rules, places);
  others = λ j h. ⊎_elim (λ l. search (rules, places)) (λ l. search (rules, places)) h;
}

-- ---- the graph turned round, its parts written one after another

-- a part that reads below 64 as a part of another array does reads as it everywhere
as_part : (l back : List ℕ) (base from : ℕ) → ((j : ℕ) → j < 64 → get_or back (base + j) 0 ≡ get_or (part l from) j 0) → (i : ℕ) → get_or (part back base) i 0 ≡ get_or (part l from) i 0
as_part l back base from f i = ⊎_elim (λ h. at_part back base i h ∙ f i h) (λ h. past_part back base i h ∙ sym (past_part l from i h)) (lt_or_le i 64)

-- the four parts
module _ (l letters b₀ b₁ b₂ b₃ b₄ : List ℕ) (f₁ : Fills b₀ 0 (part letters 0) b₁) (f₂ : Fills b₁ 64 (part l 64) b₂) (f₃ : Fills b₂ 128 (part l 192) b₃)
    (f₄ : Fills b₃ 192 (part l 128) b₄) where
  -- what stands below a part stays when it is written, and all that is written later
  stays₃ : (j : ℕ) → j < 192 → get_or b₄ j 0 ≡ get_or b₃ j 0
  stays₃ j h = f₄.others j (inl h)

  stays₂ : (j : ℕ) → j < 128 → get_or b₄ j 0 ≡ get_or b₂ j 0
  stays₂ j h = stays₃ j (omega arith) ∙ f₃.others j (inl h)

  stays₁ : (j : ℕ) → j < 64 → get_or b₄ j 0 ≡ get_or b₁ j 0
  stays₁ j h = stays₂ j (omega arith) ∙ f₂.others j (inl h)

  pub turns_into : Turned l letters → TurnedGraph (graph_of l) (graph_of b₄)
  unfolding graph_of
  turns_into is = record {
    turned = λ i j hi hj. ap (member i) (at_part b₄ 0 j hj ∙ stays₁ (0 + j) (omega arith) ∙ f₁.filled j hj ∙ letters_at letters j hj) ∙ is i j hi hj ∙ ap (member j) (sym (letters_at l i hi));
    sets_are = as_part l b₄ 64 64 (λ j h. stays₂ (64 + j) (omega arith) ∙ f₂.filled j h);
    lefts_are = as_part l b₄ 128 192 (λ j h. stays₃ (128 + j) (omega arith) ∙ f₃.filled j h);
    rights_are = as_part l b₄ 192 128 f₄.filled;
  }

-- lists that read alike are turned alike
turned_as : (a b c d : List ℕ) → ((i : ℕ) → get_or c i 0 ≡ get_or a i 0) → ((i : ℕ) → get_or d i 0 ≡ get_or b i 0) → Turned a b → Turned c d
turned_as a b c d f g is i j hi hj = ap (member i) (g j) ∙ is i j hi hj ∙ sym (ap (member j) (f i))

-- the other three, after them
module _ (l b₁ b₂ b₃ b₄ : List ℕ) (t : TurnedGraph (graph_of l) (graph_of b₁))
    (f₂ : Fills b₁ 256 (part l 256) b₂) (f₃ : Fills b₂ 320 (part l 384) b₃) (f₄ : Fills b₃ 384 (part l 320) b₄) where
  same_graph : graph_of b₄ ≡ graph_of b₁
  same_graph = graph_stays b₁ b₄ (f₄.length_is ∙ f₃.length_is ∙ f₂.length_is)
      (λ j h. f₄.others j (inl (omega arith)) ∙ f₃.others j (inl (omega arith)) ∙ f₂.others j (inl h))

  turned : TurnedGraph (graph_of l) (graph_of b₄)
  turned = subst (TurnedGraph (graph_of l)) (sym same_graph) t

  pub turns_indexed : TurnsIndexed l b₄
  turns_indexed = record {
    turned = turned;
    indexed = λ is. record {
      by_sets = turned_as (graph_of l).sets (part l 256) (graph_of b₄).sets (part b₄ 256) turned.sets_are
          (as_part l b₄ 256 256 (λ j h. f₄.others (256 + j) (inl (omega arith)) ∙ f₃.others (256 + j) (inl (omega arith)) ∙ f₂.filled j h)) is.by_sets;
      by_lefts = turned_as (graph_of l).rights (part l 384) (graph_of b₄).lefts (part b₄ 320) turned.lefts_are
          (as_part l b₄ 320 384 (λ j h. f₄.others (320 + j) (inl (omega arith)) ∙ f₃.filled j h)) is.by_rights;
      by_rights = turned_as (graph_of l).lefts (part l 320) (graph_of b₄).rights (part b₄ 384) turned.rights_are
          (as_part l b₄ 384 320 f₄.filled) is.by_lefts;
    };
  }

-- the graph that the array holds is turned round; where that array has its other parts, so does the new one
pub has_turned : (g : Graph) (l new : List ℕ) → graph_of l ≡ g → Indexed l → TurnsIndexed l new → HasTurned g new
has_turned g l new same is t = record { turned = subst (λ (x : Graph). TurnedGraph x (graph_of new)) same t.turned; indexed = t.indexed is }

-- the same of the four parts written
module _ (g : Graph) (l : List ℕ) (same : graph_of l ≡ g) (is : Indexed l) (b₁ b₂ b₃ b₄ : List ℕ) (t : TurnedGraph (graph_of l) (graph_of b₁))
    (f₂ : Fills b₁ 256 (part l 256) b₂) (f₃ : Fills b₂ 320 (part l 384) b₃) (f₄ : Fills b₃ 384 (part l 320) b₄) where
  pub turns : HasTurned g b₄
  turns = has_turned g l b₄ same is (turns_indexed l b₁ b₂ b₃ b₄ t f₂ f₃ f₄)

-- ---- a part turned round into another, place by place

-- the places below i are entered
pub record Indexing (old : List ℕ) (from by i : ℕ) (new : List ℕ) : Type 0 where
  pub length_is : length new ≡ length old
  pub sources : length old ≡ 448 → ((j : ℕ) → j < 64 → get_or old (by + j) 0 ≡ 0) → Sources (part old from) (part new by) i
  pub others : (j : ℕ) → (j < by) ⊎ (by + 64 ≤ j) → get_or new j 0 ≡ get_or old j 0

pub indexing_none : (old : List ℕ) (from by : ℕ) → Indexing old from by 0 old
indexing_none old from by = record {
  length_is = refl;
  sources = λ e none. sources_none (part old from) (part old by) (λ j h. at_part old by j h ∙ none j h);
  others = λ j h. refl;
}

module _ (old : List ℕ) (from by : ℕ) (apart : from + 64 ≤ by) where
  pub indexing_more : (i : ℕ) (new next : List ℕ) → i < 64 → by ≤ 384 → Indexing old from by i new → PlaceAdded new by (get_or new (from + i) 0) i next
      → Indexing old from by (i + 1) next
  indexing_more i new next h low now is = record {
    length_is = is.length_is ∙ now.length_is;
    sources = λ e none. sources_more (part old from) (part new by) (part next by) i (now.sources e none)
        (λ j a l. is.added.masks_are (part_length new by (now.length_is ∙ e) low) j a l
        ∙ ap (λ (m : ℕ). member a (get_or (part new by) j 0) || (member j m && eqb a i)) (now.others (from + i) (inl (omega arith)) ∙ sym (at_part old from i h)));
    others = λ j l. is.others j l ∙ now.others j l;
  }

  pub indexing_end : (n : ℕ) (new : List ℕ) → n ≤ 64 → Indexing old from by n new → PartIndexed old from by n new
  indexing_end n new few now = record {
    length_is = now.length_is;
    turned = λ e none ends. subst (λ (x : List ℕ). Turned x (part new by)) (sym (part_stays old new from now.length_is (λ j h. now.others (from + j) (inl (omega arith)))))
        (sources_some (part old from) (part new by) n (now.sources e none) (λ a g h. at_part old from a h ∙ ends a g h));
    others = now.others;
  }

-- a part turned round at once, and written over another
pub turned_into : (old : List ℕ) (from by : ℕ) (turned new : List ℕ) → from + 64 ≤ by → Turned (part old from) turned → Fills old by (part turned 0) new
    → (n : ℕ) → PartIndexed old from by n new
unfolding graph_of
turned_into old from by turned new apart is f n = record {
  length_is = f.length_is;
  turned = λ e none ends i j hi hj. ap (member i) (at_part new by j hj ∙ f.filled j hj ∙ letters_at turned j hj) ∙ is i j hi hj
      ∙ ap (λ (x : List ℕ). member j (get_or x i 0)) (sym (part_stays old new from f.length_is (λ k h. f.others (from + k) (inl (omega arith)))));
  others = f.others;
}

-- the three parts, one after another
module _ (n : ℕ) (l b₁ b₂ b₃ : List ℕ) (s : PartIndexed l 64 256 n b₁) (r : PartIndexed b₁ 128 320 n b₂) (t : PartIndexed b₂ 192 384 n b₃) where
  pub indexes : Indexes n l b₃
  unfolding graph_of
  indexes = record {
    graph_stays = graph_stays l b₃ (t.length_is ∙ r.length_is ∙ s.length_is)
        (λ j h. t.others j (inl (omega arith)) ∙ r.others j (inl (omega arith)) ∙ s.others j (inl h));
    indexed = λ u. record {
      by_sets = moved b₁ 64 256 (t.length_is ∙ r.length_is)
          (λ j h. t.others (64 + j) (inl (omega arith)) ∙ r.others (64 + j) (inl (omega arith)))
          (λ j h. t.others (256 + j) (inl (omega arith)) ∙ r.others (256 + j) (inl (omega arith)))
          (s.turned u.size (λ j h. u.blank (256 + j) (omega arith)) u.no_sets);
      by_lefts = moved b₂ 128 320 t.length_is (λ j h. t.others (128 + j) (inl (omega arith))) (λ j h. t.others (320 + j) (inl (omega arith)))
          (r.turned (s.length_is ∙ u.size) (λ j h. s.others (320 + j) (inr (omega arith)) ∙ u.blank (320 + j) (omega arith))
          (λ i g h. s.others (128 + i) (inl (omega arith)) ∙ u.no_lefts i g h));
      by_rights = t.turned (r.length_is ∙ s.length_is ∙ u.size)
          (λ j h. r.others (384 + j) (inr (omega arith)) ∙ s.others (384 + j) (inr (omega arith)) ∙ u.blank (384 + j) (omega arith))
          (λ i g h. r.others (192 + i) (inl (omega arith)) ∙ s.others (192 + i) (inl (omega arith)) ∙ u.no_rights i g h);
    };
  }
    where
      moved : (b : List ℕ) (from by : ℕ) → length b₃ ≡ length b → ((j : ℕ) → j < 64 → get_or b₃ (from + j) 0 ≡ get_or b (from + j) 0)
          → ((j : ℕ) → j < 64 → get_or b₃ (by + j) 0 ≡ get_or b (by + j) 0) → Turned (part b from) (part b by) → Turned (part b₃ from) (part b₃ by)
      moved b from by e f g is = rw (part_stays b b₃ from e f, part_stays b b₃ by e g) is

-- ---- which masks of a part have a state, told by the part turned round

module _ (l : List ℕ) (from by : ℕ) (is : Turned (part l from) (part l by)) where
  place : (i s : ℕ) → s ∈ get_or (part l from) i 0 → i < 64
  place i s h = ⊎_elim (λ g. g) (λ g. absurd (in_none s (subst (λ (x : ℕ). s ∈ x) (past_part l from i g) h))) (lt_or_le i 64)

  pub has : (s : ℕ) → s < 64 → Having (part l from) s (get_or l (by + s) 0)
  has s low i = rw (← at_part l by s low) (
    (λ h. sym (is i s (member_lt i _ h) low) ∙ h),
    λ h. is i s (place i s h) low ∙ h,
  )

  pub meet : (m r : ℕ) → Targets (part l by) m r → Meeting (part l from) m r
  meet m r tg i = (
    (λ h. let x = tg.sound i h in (x.source, x.is, sym (is i x.source (member_lt i r h) (member_lt x.source m x.is)) ∙ x.edge)),
    λ p. tg.complete i (record { source = p.0; is = p.1; edge = is i p.0 (place i p.0 p.2) (member_lt p.0 m p.1) ∙ p.2 }),
  )

-- ---- steps by claims

module _ (g : Graph) (m : ℕ) (force : Claims) where
  -- where the omega steps are those by all loops in force that the states enter, no step by a claim is left out
  pub all_touched : (at entered r : ℕ) → Meeting g.sets m at → ((t : ℕ) → member t entered ≡ (member t at && member t force.loops))
      → Touched g force entered m r → Onward (Claimed g force) m r
  all_touched at entered r is_at is_entered is_r t = (
    (λ h. ⊎_elim
        (λ x. let i = x.source in
        let y = (is_at i).0 (intersection_left at force.loops entered is_entered i x.is) in
        (y.0, y.1, inl (inl (i, intersection_right at force.loops entered is_entered i x.is, y.2, x.edge))))
        (λ y. (y.0, y.1, ⊎_elim (λ e. inl (inr e)) inr y.2)) ((is_r t).0 h)),
    λ (s, h, e). (is_r t).1 (⊎_elim
        (⊎_elim
        (λ o. inl (record { source = o.0; is = intersection_both at force.loops entered is_entered o.0 ((is_at o.0).1 (s, h, o.2)) o.1; edge = o.3 }))
        (λ o. inr (s, h, inl o)))
        (λ o. inr (s, h, inr o)) e),
  )

  module _ (ω left : ℕ) (is_left : Meeting g.rights m left)
      (mix back : ℕ) (is_mix : (t : ℕ) → member t mix ≡ (member t left && member t force.mixes))
      (is_back : (t : ℕ) → member t back ≡ (member t left && member t force.loops))
      (both over under r : ℕ) (is_both : (t : ℕ) → member t both ≡ (member t ω || member t mix)) (is_over : Targets g.lefts both over)
      (is_under : Targets g.sets back under) (is_r : (t : ℕ) → member t r ≡ (member t over || member t under)) where
    pub claims_lead : Touched g force ω m r
    claims_lead t = ((λ h. ⊎_elim to_left to_set (union_cases over under r is_r t h)), ⊎_elim (λ x. by_left x.source (union_left ω mix both is_both x.source x.is) x.edge) from)
      where
        to_left : t ∈ over → Target g.lefts ω t ⊎ ((s : ℕ) × (s ∈ m) × BackOrMix g force s t)
        to_left h = let x = is_over.sound t h in let i = x.source in ⊎_elim
            (λ k. inl (record { source = i; is = k; edge = x.edge }))
            (λ k. let y = (is_left i).0 (intersection_left left force.mixes mix is_mix i k) in
            inr (y.0, y.1, inr (i, intersection_right left force.mixes mix is_mix i k, y.2, x.edge)))
            (union_cases ω mix both is_both i x.is)

        to_set : t ∈ under → Target g.lefts ω t ⊎ ((s : ℕ) × (s ∈ m) × BackOrMix g force s t)
        to_set h = let x = is_under.sound t h in let i = x.source in
            let y = (is_left i).0 (intersection_left left force.loops back is_back i x.is) in
            inr (y.0, y.1, inl (i, intersection_right left force.loops back is_back i x.is, y.2, x.edge))

        by_left : (i : ℕ) → i ∈ both → t ∈ get_or g.lefts i 0 → t ∈ r
        by_left i k e = union_left over under r is_r t (is_over.complete t (record { source = i; is = k; edge = e }))

        from : (p : (s : ℕ) × (s ∈ m) × BackOrMix g force s t) → t ∈ r
        from (s, h, e) = ⊎_elim
            (λ p. union_right over under r is_r t (is_under.complete t (record {
              source = p.0;
              is = intersection_both left force.loops back is_back p.0 ((is_left p.0).1 (s, h, p.2)) p.1;
              edge = p.3;
            })))
            (λ p. by_left p.0 (union_right ω mix both is_both p.0 (intersection_both left force.mixes mix is_mix p.0 ((is_left p.0).1 (s, h, p.2)) p.1)) p.3) e
