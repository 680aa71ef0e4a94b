-- The loop that writes a frame's parts: it starts (`going_start`), goes on by one part (`going_more`), and all parts are the frame's text (`going_end`).
-- Within a part stands the text of its claim's frame (`inner_put`), or nothing (`inner_none`, `inner_skip`).
use Rattle.std.specs.Prelude as Code
use Rattle.std.specs.Option.{IsSomeAnd}
use Rattle.machine.specs.declared.Step as Coded
use Rattle.machine.specs.declared.StepLabel as Labels
use Rattle.machine.specs.declared.StepLabel.TheVariants.{Letter, Omega, Back, Mix}
use Rattle.machine.specs.Labels.{label_of}
use Prim.Native.Nat.{ℕ, ◌+◌, ◌-◌, ◌≤◌, ◌<◌}
use mathlib.Core.Path.{◌≡◌, refl, ap, sym, ◌∙◌, subst}
use mathlib.Core.Option.{Option, none, some}
use mathlib.Core.List.Memᴰ
use mathlib.Core.List.{List, [], ◌∷◌, ◌++◌, append_assoc, append-nil}
use lib.ListN.{length, take, drop, length-append, length-take, length-drop}
use native.Mathlib.Omega.{arith}
use Rattle.lists.specs.Tests.{◌among◌, gather}
use Rattle.lists.specs.Writing.{Wrote}
use Rattle.lists.proofs.Places.{gather_append, gather_last}
use Rattle.lists.proofs.Writing.{wrote_nothing, wrote_at_part}
use Rattle.orderings.specs.Steps.{Label, loops, mixes, ω, back, mix, Step}
use Rattle.machine.specs.Machine.{Machine}
use Rattle.search.specs.Graph.{Graph}
use Rattle.tours.specs.declared.frames.Shape.{Shape}
use Rattle.tours.specs.declared.frames.Shape.TheVariants.{Tour, Pieces}
use Rattle.std.proofs.lemmas.Option.{none-some}
use Rattle.tours.specs.declared.frames.Frame.{Frame}
use Rattle.tours.specs.declared.frames.Cursor.{Cursor}
use Rattle.tours.specs.Frames.{Held}
use Rattle.tours.specs.Parts.{Part, parts}
use Rattle.tours.specs.Cursors.{StandsAt, Stands, Begins, Advances, Chosen, ShowsPart}
use Rattle.expression.specs.Texts.{before_text, step_text, part_text, shape_text, label_open, label_close, open_text, close_text}
use Rattle.expression.specs.Frames.{Noted, round_for, Frames, Goes, LeadsOn, LabelFrame, StepFrame}
use Rattle.expression.specs.Promise.{PutsAt, PutsFrame}
use Rattle.expression.proofs.Texts.{writer, letter_spelled, omega_spelled, back_spelled, mix_spelled, parts_go, step_earlier, live_part}
use Rattle.expression.proofs.Putting.{puts_none, puts_more}

-- some parts are written, and the cursor stands before the others
pub record Half (m : Machine) (words : List ℕ) (n : ℕ) (b : Graph) (f : Frame) (old layers : List ℕ) (c : Code.Option Cursor) (buf : List ℕ) (at : ℕ) : Type 0 where
  pub done : List Part
  pub rest : List Part
  pub all : parts m f ≡ done ++ rest
  pub stands : Stands m words n b f layers c rest
  pub wrote : Wrote (gather (part_text (writer m)) done) old buf at

-- the text of a frame
abbrev pub frame_text : Machine → Frame → List ℕ
frame_text m f = shape_text m f.shape f.set

-- what is written within a part, where the frame of its claim is of a round before that of f
pub record InnerPut (words : List ℕ) (n : ℕ) (b : Graph) (k : ℕ) (opened : List ℕ) (f : Frame) (r : Code.Option Frame) (old new : List ℕ) (at next : ℕ) : Type 0 where
  pub length_is : length new ≡ length old
  pub within : at ≤ length old → next ≤ length new
  pub nothing : r ≡ Code.None → PutsAt [] old new at next
  pub text : (m : Machine) (g : Graph) → Held m g words n b k → Noted m opened → (h : Frame) → r ≡ Code.Some h → Frames m g k h → h.round < f.round → PutsAt (frame_text m h) old new at next

module _ (words : List ℕ) (n : ℕ) (b : Graph) (k : ℕ) (opened : List ℕ) (f : Frame) where
  -- of every machine that the arrays hold and that the frame is about, where its text fits
  abbrev pub Going : List ℕ → List ℕ → Code.Option Cursor → List ℕ → ℕ → Type 0
  Going old layers c buf at = (m : Machine) (g : Graph) → Held m g words n b k → Noted m opened → Frames m g k f
      → length (frame_text m f) ≤ length old → Half m words n b f old layers c buf at

  pub going_start : (old layers : List ℕ) (c : Code.Option Cursor) → Begins b f layers c → Going old layers c old 0
  going_start old layers c h m g held noted frames fits = record {
    done = [];
    rest = parts m f;
    all = refl;
    stands = h m g words n k held frames.framed;
    wrote = wrote_nothing old;
  }

  pub going_end : (old layers buf : List ℕ) (at : ℕ) → Going old layers Code.None buf at → PutsFrame words n b k opened f old buf at
  going_end old layers buf at h m g held noted frames fits =
      let x = h m g held noted frames fits in
      let all : parts m f ≡ x.done = x.all ∙ ap (λ (l : List Part). x.done ++ l) x.stands ∙ append-nil x.done in
      subst (λ (l : List Part). Wrote (gather (part_text (writer m)) l) old buf at) (sym all) x.wrote

  module _ (old : List ℕ) (at : ℕ) where
    -- nothing is written where there is no frame, or one of no earlier round
    pub inner_none : InnerPut words n b k opened f Code.None old old at at
    inner_none = record { length_is = refl; within = λ i. i; nothing = λ e. puts_none old at; text = λ m g held noted h e frames l. absurd (none-some h e) }

    pub inner_skip : (r : Frame) → f.round ≤ r.round → InnerPut words n b k opened f (Code.Some r) old old at at
    inner_skip r h = record {
      length_is = refl;
      within = λ i. i;
      nothing = λ e. puts_none old at;
      text = λ m g held noted p e frames l. let same : r ≡ p = cc in absurd (omega (arith, h, l, ap (λ (x : Frame). x.round) same));
    }

    -- its text is written into the rest of the buffer
    pub inner_put : (r : Frame) (part : List ℕ) (count : ℕ) → at ≤ length old → length part ≡ length (take (length old - at) (drop at old)) → count ≤ length part
        → PutsFrame words n b k opened r (take (length old - at) (drop at old)) part count
        → InnerPut words n b k opened f (Code.Some r) old (take at old ++ (part ++ drop (length old - at) (drop at old))) at (at + count)
    inner_put r part count h e l w =
        let rest : length (take (length old - at) (drop at old)) ≡ length old - at = simp (length-take, length-drop) (omega arith) in
        let new : List ℕ = take at old ++ (part ++ drop (length old - at) (drop at old)) in
        let same : length new ≡ length old = simp (length-append, length-take, length-drop) (omega arith) in
        let low : at + count ≤ length new = omega arith in
        record {
          length_is = same;
          within = λ j. low;
          nothing = λ z. absurd (none-some r (sym z));
          text = λ m g held noted p q frames y. let is : r ≡ p = cc in subst (λ (x : Frame). PutsAt (frame_text m x) old new at (at + count)) is (record {
            length_is = same;
            within = λ j. low;
            written = λ j. wrote_at_part (frame_text m r) old part at (w m g held noted (subst (λ (x : Frame). Frames m g k x) (sym is) frames) (omega arith));
          });
        }

  -- ---- a part

  module _ (m : Machine) (g : Graph) (held : Held m g words n b k) (noted : Noted m opened) (frames : Frames m g k f) where
    abbrev R : Step → List ℕ
    R = writer m

    -- what is written within a part with a step, and that it is written between what opens and what closes the step
    abbrev Splits : Part → Code.Option Coded.Step → List ℕ → List ℕ → ℕ → ℕ → Type 0
    Splits p s old new at next = (y : List ℕ) × (part_text R p ≡ open_text p.before s ++ (y ++ close_text s)) × PutsAt y old new at next

    module _ (r : Code.Option Frame) (old new : List ℕ) (at next : ℕ) (h : InnerPut words n b k opened f r old new at next) (p : Part) (i : p among parts m f) (a : ℕ) where
      -- the frame of a claim that a step has
      frame_puts : (shape : Shape) (P : ℕ) → IsSomeAnd r (λ x. Frames m g k x × (x.shape ≡ shape) × (x.set ≡ P)) → round_for m shape P < round_for m f.shape f.set
          → PutsAt (shape_text m shape P) old new at next
      frame_puts shape P v l = by r refl v
        where
          by : (o : Code.Option Frame) → r ≡ o → IsSomeAnd o (λ x. Frames m g k x × (x.shape ≡ shape) × (x.set ≡ P)) → PutsAt (shape_text m shape P) old new at next
          by Code.None e v = absurd v
          by (Code.Some x) e v =
              let round : x.round ≡ round_for m shape P = v.0.rounded ∙ ap (λ (y : Shape). round_for m y x.set) v.1 ∙ ap (round_for m shape) v.2 in
              let y : shape_text m x.shape x.set ≡ shape_text m shape P = ap (λ (y : Shape). shape_text m y x.set) v.1 ∙ ap (shape_text m shape) v.2 in
              subst (λ (y : List ℕ). PutsAt y old new at next) y (h.text m g held noted x e v.0 (omega (arith, round, l, frames.rounded)))

      limit_splits : (l : Label) (shape : Shape) (P to : ℕ) (t : Step) → p.step ≡ some t → t ≡ record { from = a; label = l; to = to }
          → writer m (record { from = a; label = l; to = to }) ≡ label_open l ++ (shape_text m shape P ++ label_close l) → PutsAt (shape_text m shape P) old new at next
          → (y : List ℕ) × (part_text R p ≡ (before_text p.before ++ label_open l) ++ (y ++ label_close l)) × PutsAt y old new at next
      limit_splits l shape P to t e c spelled puts = (
        shape_text m shape P,
        ap (λ (x : Option Step). before_text p.before ++ step_text R x) (e ∙ ap some c) ∙ ap (λ (x : List ℕ). before_text p.before ++ x) spelled
            ∙ sym (append_assoc (before_text p.before) (label_open l) (shape_text m shape P ++ label_close l)),
        puts,
      )

      part_splits : (s : Code.Option Coded.Step) → StepFrame b k opened a s r → (o : Option Step) → p.step ≡ o → Chosen a o s → Splits p s old new at next
      part_splits Code.None d none e c = ([], ap (λ (x : Option Step). before_text p.before ++ step_text R x) e ∙ sym (append-nil _), h.nothing d)
      part_splits Code.None d (some t) e c = absurd c
      part_splits (Code.Some s) d none e c = absurd c
      part_splits (Code.Some s) d (some t) e c = by s.label d c (parts_go m held.formed f.shape f.set p i t e)
        where
          by : (l : Labels.StepLabel) → LabelFrame b k opened a l s.to r → t ≡ record { from = a; label = label_of l; to = s.to } → Goes m t.from t.label t.to
              → (y : List ℕ) × (part_text R p ≡ (before_text p.before ++ label_open (label_of l)) ++ (y ++ label_close (label_of l))) × PutsAt y old new at next
          by (Letter x) d c go = (
            [],
            ap (λ (x : Option Step). before_text p.before ++ step_text R x) (e ∙ ap some c) ∙ ap (λ (l : List ℕ). before_text p.before ++ l) (letter_spelled m a x s.to) ∙ sym (append-nil _),
            h.nothing d,
          )
          by (Omega P) d c go =
              let go' = subst (λ (x : Step). Goes m x.from x.label x.to) c go in
              limit_splits (ω P) (Tour a) P s.to t e c (omega_spelled m held.formed a P s.to go')
              (frame_puts (Tour a) P (d m g words n held noted (go'.0.0.1, go'.1)) (step_earlier m held.formed f.shape f.set p i t e a (ω P) s.to (loops P) c refl).1)
          by (Back P) d c go =
              let go' = subst (λ (x : Step). Goes m x.from x.label x.to) c go in
              limit_splits (back P) (Tour s.to) P s.to t e c (back_spelled m held.formed a P s.to go')
              (frame_puts (Tour s.to) P (d m g words n held noted (go'.0.0.1, go'.1)) (step_earlier m held.formed f.shape f.set p i t e a (back P) s.to (loops P) c refl).1)
          by (Mix P) d c go =
              let go' = subst (λ (x : Step). Goes m x.from x.label x.to) c go in
              limit_splits (mix P) Pieces P s.to t e c (mix_spelled m held.formed a P s.to go')
              (frame_puts Pieces P (d m g words n held noted go'.1) (step_earlier m held.formed f.shape f.set p i t e a (mix P) s.to (mixes P) c refl).1)

    -- a part is opened, its claim's text stands within it, and it is closed
    part_puts : (p : Part) → p among parts m f → (c : Cursor) (s : Code.Option Coded.Step) → p.before ≡ c.before → Chosen c.state p.step s
        → (buf mid : List ℕ) (at a : ℕ) → PutsAt (open_text c.before s) buf mid at a
        → (r : Code.Option Frame) → StepFrame b k opened c.state s r → (mid' : List ℕ) (a' : ℕ) → InnerPut words n b k opened f r mid mid' a a'
        → (new : List ℕ) (next : ℕ) → PutsAt (close_text s) mid' new a' next → PutsAt (part_text R p) buf new at next
    part_puts p i c s e ch buf mid at a opens r d mid' a' inner new next closes =
        let v = part_splits r mid mid' a a' inner p i c.state s d p.step refl ch in
        let o = subst (λ (x : Code.Option ℕ). PutsAt (open_text x s) buf mid at a) (sym e) opens in
        rw v.1 (puts_more (open_text p.before s) (v.0 ++ close_text s) buf mid new at a next o (puts_more v.0 (close_text s) mid mid' new a a' next v.2 closes))

    -- one part more is written
    half_more : (old layers : List ℕ) (c : Code.Option Cursor) (buf new : List ℕ) (at next : ℕ) → length (frame_text m f) ≤ length old → length buf ≡ length old
        → (done : List Part) (p : Part) (rest : List Part) → parts m f ≡ done ++ (p ∷ rest) → Wrote (gather (part_text R) done) old buf at
        → PutsAt (part_text R p) buf new at next → Stands m words n b f layers c rest → Half m words n b f old layers c new next
    half_more old layers c buf new at next fits same done p rest all wrote puts stands =
        let G : List Part → List ℕ = gather (part_text R) in
        let total : length (frame_text m f) ≡ length (G done) + (length (part_text R p) + length (G rest)) =
        ap (λ (l : List Part). length (G l)) all ∙ ap length (gather_append (part_text R) done (p ∷ rest)) ∙ simp length-append in
        record {
          done = done ++ (p ∷ []);
          rest = rest;
          all = all ∙ sym (append_assoc done (p ∷ []) rest);
          stands = stands;
          wrote = subst (λ (t : List ℕ). Wrote t old new next) (sym (gather_last (part_text R) done p))
              ((puts.written (omega (arith, wrote.length_is))).follows (G done) old wrote);
        }

  -- the part at the cursor is written, and the cursor goes on
  pub going_more : (old layers : List ℕ) (c : Cursor) (buf : List ℕ) (at : ℕ) → Going old layers (Code.Some c) buf at → length buf ≡ length old
      → (s : Code.Option Coded.Step) → ShowsPart words n b f layers c s → (mid : List ℕ) (a : ℕ) → PutsAt (open_text c.before s) buf mid at a
      → (r : Code.Option Frame) → StepFrame b k opened c.state s r → (mid' : List ℕ) (a' : ℕ) → InnerPut words n b k opened f r mid mid' a a'
      → (new : List ℕ) (next : ℕ) → PutsAt (close_text s) mid' new a' next
      → (to : ℕ) → LeadsOn c.state s to → (layers' : List ℕ) (c' : Code.Option Cursor) → Advances b f layers c to layers' c' → Going old layers' c' new next
  going_more old layers c buf at h same s shows mid a opens r d mid' a' inner new next closes to leads layers' c' advances m g held noted frames fits =
      let x = h m g held noted frames fits in
      let l = live_part m words n b f layers c x.rest x.stands in
      by x.done l.0 l.1 (x.all ∙ ap (λ (y : List Part). x.done ++ y) l.2) (subst (StandsAt m words n b f layers c) l.2 x.stands) x.wrote
    where
      by : (done : List Part) (p : Part) (rest : List Part) → parts m f ≡ done ++ (p ∷ rest) → StandsAt m words n b f layers c (p ∷ rest) → Wrote (gather (part_text (writer m)) done) old buf at
          → Half m words n b f old layers' c' new next
      by done p rest all stands wrote =
          let v = shows m g k held frames.framed p rest stands in
          let i : p among parts m f = subst (λ (y : List Part). p among y) (sym all) (Memᴰ.append_right done (Memᴰ.head refl)) in
          half_more m g held noted frames old layers' c' buf new at next fits same done p rest all wrote
          (part_puts m g held noted frames p i c s v.0 v.1 buf mid at a opens r d mid' a' inner new next closes)
          (advances m g words n k held frames.framed p rest stands (leads p.step v.1))
