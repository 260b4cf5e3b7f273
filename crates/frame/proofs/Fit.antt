-- Bytes held against slots: what bytes that fit match as, and what a match has seen.
use mathlib.Core.Path.{◌≡◌, refl, sym, ap, subst, ◌∙◌}
use mathlib.Core.List.{List, [], ◌∷◌, ◌++◌}
use mathlib.Core.Bool.{true, false}
use Prim.Native.Nat.{ℕ, zero, suc, ◌+◌, ◌≤◌, ◌<◌}
use native.Mathlib.Omega.{arith}
use lib.Dec.{leb}
use lib.ListN.{length, get_or, take, drop, replicate}
use borrow.Author.Tests.{lt-leb}
use Rattle.flash.specs.Bytes.{all_ff}
use Rattle.flash.proofs.Cases.{on_test, and_no_right, between, between-yes}
use Rattle.flash.proofs.Blank.{all_ff-all, all_ff_lem}
use Rattle.frame.specs.Reader.{Slot, fits, Match, all, part, misfit, match}

-- each byte fits its slot
abbrev pub Fit : List Slot → List ℕ → Type 0
Fit [] [] = Unit {0}
Fit [] (b ∷ t) = ⊥
Fit (p ∷ ps) [] = ⊥
Fit (p ∷ ps) (b ∷ t) = (p.lo ≤ b) × (b ≤ p.hi) × Fit ps t

pub fit_length : (ps : List Slot) (bs : List ℕ) → Fit ps bs → length ps ≡ length bs
fit_length [] [] r = refl
fit_length [] (b ∷ t) r = absurd r
fit_length (p ∷ ps) [] r = absurd r
fit_length (p ∷ ps) (b ∷ t) r = ap suc (fit_length ps t r.2)

pub fit_append : (a b : List Slot) (x y : List ℕ) → Fit a x → Fit b y → Fit (a ++ b) (x ++ y)
fit_append [] b [] y f g = g
fit_append [] b (c ∷ x) y f g = absurd f
fit_append (p ∷ a) b [] y f g = absurd f
fit_append (p ∷ a) b (c ∷ x) y (l, h, f) g = (l, h, fit_append a b x y f g)

pub fit-split : (a b : List Slot) (xs : List ℕ) → Fit (a ++ b) xs → Fit a (take (length a) xs) × Fit b (drop (length a) xs)
fit-split [] b xs f = (tt, f)
fit-split (p ∷ a) b [] f = absurd f
fit-split (p ∷ a) b (x ∷ xs) (l, h, f) = let r : Fit a (take (length a) xs) × Fit b (drop (length a) xs) = fit-split a b xs f in ((l, h, r.0), r.1)

pub fit-take : (j : ℕ) (ps : List Slot) (xs : List ℕ) → Fit ps xs → Fit (take j ps) (take j xs)
fit-take zero ps xs f = tt
fit-take (suc j) [] [] f = tt
fit-take (suc j) [] (x ∷ xs) f = absurd f
fit-take (suc j) (p ∷ ps) [] f = absurd f
fit-take (suc j) (p ∷ ps) (x ∷ xs) (l, h, f) = (l, h, fit-take j ps xs f)

-- the byte at a slot's place
pub fit_at : (i j : ℕ) (ps others : List Slot) (p : Slot) (t : List ℕ) → drop i ps ≡ p ∷ others → i < j → Fit (take j ps) (take j t)
    → fits p (get_or t i 0) ≡ true
fit_at i zero ps others p t e h f = absurd (omega arith)
fit_at zero (suc j) [] others p t e h f = let z : ◌≡◌ {A = ℕ} 0 1 = cc in absurd (omega arith)
fit_at (suc i) (suc j) [] others p t e h f = let z : ◌≡◌ {A = ℕ} 0 1 = cc in absurd (omega arith)
fit_at i (suc j) (q ∷ ps) others p [] e h f = absurd f
fit_at zero (suc j) (q ∷ ps) others p (b ∷ t) e h f =
    let s : q ≡ p = cc in subst (λ (x : Slot). fits x b ≡ true) s (between-yes q.lo b q.hi f.0 f.1)
fit_at (suc i) (suc j) (q ∷ ps) others p (b ∷ t) e h f = fit_at i j ps others p t e (omega arith) f.2

-- ---- the least bytes that fit

abbrev pub Wide : List Slot → Type 0
Wide [] = Unit {0}
Wide (p ∷ ps) = (p.lo ≤ p.hi) × Wide ps

pub least : List Slot → List ℕ
least [] = []
least (p ∷ ps) = p.lo ∷ least ps

-- bytes that fit the first slots, completed
pub fit-complete : (i : ℕ) (ps : List Slot) (xs : List ℕ) → Fit (take i ps) xs → Wide ps → Fit ps (xs ++ least (drop i ps))
unfolding least
fit-complete zero [] [] f w = tt
fit-complete zero (p ∷ ps) [] f (h, w) = (omega arith, h, fit-complete zero ps [] tt w)
fit-complete zero ps (x ∷ xs) f w = absurd f
fit-complete (suc i) [] [] f w = tt
fit-complete (suc i) [] (x ∷ xs) f w = absurd f
fit-complete (suc i) (p ∷ ps) [] f w = absurd f
fit-complete (suc i) (p ∷ ps) (x ∷ xs) (l, h, f) (k, w) = (l, h, fit-complete i ps xs f w)

-- ---- the steps of a match

pub match-go : (p : Slot) (ps : List Slot) (b : ℕ) (t : List ℕ) → fits p b ≡ true → match (p ∷ ps) (b ∷ t) ≡ match ps t
unfolding match
match-go p ps b t e = rw (e, match)

pub match-part : (p : Slot) (ps : List Slot) (b : ℕ) (t : List ℕ) → fits p b ≡ false → all_ff (b ∷ t) ≡ true → match (p ∷ ps) (b ∷ t) ≡ part p
unfolding match
match-part p ps b t e a = rw (e, a, match)

pub match-misfit : (p : Slot) (ps : List Slot) (b : ℕ) (t : List ℕ) → fits p b ≡ false → all_ff (b ∷ t) ≡ false → match (p ∷ ps) (b ∷ t) ≡ misfit p
unfolding match
match-misfit p ps b t e a = rw (e, a, match)

match-yes : (p : Slot) (ps : List Slot) (b : ℕ) (t : List ℕ) → p.lo ≤ b → b ≤ p.hi → match (p ∷ ps) (b ∷ t) ≡ match ps t
match-yes p ps b t h k = match-go p ps b t (between-yes p.lo b p.hi h k)

-- bytes that fit, and anything after them
pub match-all : (ps : List Slot) (bs rest : List ℕ) → Fit ps bs → match ps (bs ++ rest) ≡ all
unfolding match
match-all [] [] rest r = refl
match-all [] (b ∷ t) rest r = absurd r
match-all (p ∷ ps) [] rest r = absurd r
match-all (p ∷ ps) (b ∷ t) rest r = match-yes p ps b (t ++ rest) r.0 r.1 ∙ match-all ps t rest r.2

-- the last slot takes no 0xFF
abbrev pub Closed : List Slot → Type 0
Closed [] = ⊥
Closed (p ∷ []) = p.hi < 255
Closed (p ∷ q ∷ ps) = Closed (q ∷ ps)

pub closed-append : (a b : List Slot) → Closed b → Closed (a ++ b)
closed-append [] b c = c
closed-append (p ∷ []) [] c = absurd c
closed-append (p ∷ []) (q ∷ b) c = c
closed-append (p ∷ q ∷ a) b c = closed-append (q ∷ a) b c

pub closed-drop : (j : ℕ) (ps : List Slot) → Closed ps → j < length ps → Closed (drop j ps)
closed-drop zero ps c h = c
closed-drop (suc j) [] c h = absurd c
closed-drop (suc j) (p ∷ []) c h = absurd (omega arith)
closed-drop (suc j) (p ∷ q ∷ ps) c h = closed-drop j (q ∷ ps) c (omega arith)

pub record Partly (m : Match) : Type 0 where
  pub at : Slot
  pub is : m ≡ part at

match-no : (p : Slot) (ps : List Slot) (m : ℕ) → fits p 255 ≡ false → Partly (match (p ∷ ps) (replicate (suc m) 255))
match-no p ps m e = record { at = p; is = match-part p ps 255 (replicate m 255) e (all_ff-all (suc m)) }

over : (x y : Match) → x ≡ y → Partly y → Partly x
over x y e p = record { at = p.at; is = e ∙ p.is }

match_ff : (ps : List Slot) (m : ℕ) → Closed ps → length ps ≤ m → Partly (match ps (replicate m 255))
match_ff [] m c h = absurd c
match_ff (p ∷ ps) zero c h = absurd (omega arith)
match_ff (p ∷ []) (suc m) c h = match-no p [] m (and_no_right (leb p.lo 255) (leb 255 p.hi) (lt-leb 255 p.hi c))
match_ff (p ∷ q ∷ ps) (suc m) c h =
    on_test (fits p 255)
    (λ e. over (match (p ∷ q ∷ ps) (replicate (suc m) 255)) (match (q ∷ ps) (replicate m 255)) (match-go p (q ∷ ps) 255 (replicate m 255) e)
    (match_ff (q ∷ ps) m c (omega arith)))
    (λ e. match-no p (q ∷ ps) m e)

-- bytes that fit the first slots, and 0xFF after them
pub match-some : (k : ℕ) (ps : List Slot) (xs : List ℕ) (m : ℕ) → Fit (take k ps) xs → Closed ps → k < length ps → length ps ≤ k + m
    → Partly (match ps (xs ++ replicate m 255))
match-some zero ps [] m f c h l = match_ff ps m c (omega arith)
match-some zero ps (x ∷ xs) m f c h l = absurd f
match-some (suc k) [] xs m f c h l = absurd c
match-some (suc k) (p ∷ ps) [] m f c h l = absurd f
match-some (suc k) (p ∷ []) (x ∷ xs) m f c h l = absurd (omega arith)
match-some (suc k) (p ∷ q ∷ ps) (x ∷ xs) m f c h l =
    let s : List ℕ = xs ++ replicate m 255 in
    over (match (p ∷ q ∷ ps) (x ∷ s)) (match (q ∷ ps) s) (match-yes p (q ∷ ps) x s f.0 f.1)
    (match-some k (q ∷ ps) xs m f.2 c (omega arith) (omega arith))

-- ---- what a match has seen

pub match-seen : (ps : List Slot) (t : List ℕ) → match ps t ≡ all → Fit ps (take (length ps) t)
unfolding match
match-seen [] t e = tt
match-seen (p ∷ ps) [] e = let z : ◌≡◌ {A = ℕ} 0 1 = cc in absurd (omega arith)
match-seen (p ∷ ps) (b ∷ t) e =
    on_test (fits p b)
    (λ q.
    let w : (p.lo ≤ b) × (b ≤ p.hi) = between p.lo b p.hi q in
    (w.0, w.1, match-seen ps t (sym (match-go p ps b t q) ∙ e)))
    (λ q. on_test (all_ff (b ∷ t))
    (λ a. let r : part p ≡ all = sym (match-part p ps b t q a) ∙ e in let z : ◌≡◌ {A = ℕ} 0 1 = cc in absurd (omega arith))
    (λ a. let r : misfit p ≡ all = sym (match-misfit p ps b t q a) ∙ e in let z : ◌≡◌ {A = ℕ} 0 1 = cc in absurd (omega arith)))

-- ---- where a match stops

abbrev pub Stopped : Match → Slot → Type 0
Stopped all p = ⊥
Stopped (part q) p = q ≡ p
Stopped (misfit q) p = q ≡ p

-- where it is part, only 0xFF follows
abbrev pub Blanks : Match → List ℕ → ℕ → Type 0
Blanks all t i = Unit {0}
Blanks (part q) t i = (left : ℕ) × (t ≡ take i t ++ replicate left 255)
Blanks (misfit q) t i = Unit {0}

blanks-more : (m : Match) (b : ℕ) (t : List ℕ) (i : ℕ) → Blanks m t i → Blanks m (b ∷ t) (suc i)
blanks-more all b t i y = tt
blanks-more (part q) b t i (n, e) = (n, ap (λ (x : List ℕ). b ∷ x) e)
blanks-more (misfit q) b t i y = tt

-- the bytes before the slot fit, and the one there does not
pub record Stuck (ps : List Slot) (t : List ℕ) (p : Slot) : Type 0 where
  pub place : ℕ
  pub others : List Slot
  pub is_slots : drop place ps ≡ p ∷ others
  pub fit : Fit (take place ps) (take place t)
  pub unfit : place < length t → fits p (get_or t place 0) ≡ false
  pub blanks : Blanks (match ps t) t place

pub match-stuck : (ps : List Slot) (t : List ℕ) (p : Slot) → Stopped (match ps t) p → Stuck ps t p
unfolding match
match-stuck [] t p s = absurd s
match-stuck (q ∷ ps) [] p s =
    record { place = 0; others = ps; is_slots = ap (λ (x : Slot). x ∷ ps) s; fit = tt; unfit = λ l. absurd (omega arith); blanks = tt }
match-stuck (q ∷ ps) (b ∷ t) p s =
    on_test (fits q b)
    (λ e.
    let y : Stuck ps t p = match-stuck ps t p (subst (λ (m : Match). Stopped m p) (match-go q ps b t e) s) in
    let w : (q.lo ≤ b) × (b ≤ q.hi) = between q.lo b q.hi e in
    record {
      place = suc y.place;
      others = y.others;
      is_slots = y.is_slots;
      fit = (w.0, w.1, y.fit);
      unfit = λ l. y.unfit (omega arith);
      blanks = subst (λ (m : Match). Blanks m (b ∷ t) (suc y.place)) (sym (match-go q ps b t e)) (blanks-more (match ps t) b t y.place y.blanks);
    })
    (λ e. on_test (all_ff (b ∷ t))
    (λ a.
    let m : match (q ∷ ps) (b ∷ t) ≡ part q = match-part q ps b t e a in
    here e (subst (λ (m : Match). Stopped m p) m s) (subst (λ (m : Match). Blanks m (b ∷ t) 0) (sym m) (suc (length t), all_ff_lem (b ∷ t) a)))
    (λ a.
    let m : match (q ∷ ps) (b ∷ t) ≡ misfit q = match-misfit q ps b t e a in
    here e (subst (λ (m : Match). Stopped m p) m s) (subst (λ (m : Match). Blanks m (b ∷ t) 0) (sym m) tt)))
  where
    here : fits q b ≡ false → q ≡ p → Blanks (match (q ∷ ps) (b ∷ t)) (b ∷ t) 0 → Stuck (q ∷ ps) (b ∷ t) p
    here e r y = record {
      place = 0;
      others = ps;
      is_slots = ap (λ (x : Slot). x ∷ ps) r;
      fit = tt;
      unfit = λ l. subst (λ (x : Slot). fits x b ≡ false) r e;
      blanks = y;
    }
