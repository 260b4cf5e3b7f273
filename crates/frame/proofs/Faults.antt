-- Where the reader says wrong: at the first field up to whose end no legal frame that may stand there begins. It lies in the bytes that were read.
use mathlib.Core.Path.{◌≡◌, refl, sym, ap, subst, ◌∙◌}
use mathlib.Core.List.{List, [], ◌∷◌}
use mathlib.Core.Logic.{inl, ⊎_elim}
use mathlib.Core.Bool.{Bool, true, false}
use Prim.Native.Nat.{ℕ, zero, suc, ◌+◌, ◌≤◌, ◌<◌}
use native.Mathlib.Omega.{arith}
use native.Mathlib.Nat.{add-zero}
use lib.Dec.{leb}
use lib.ListN.{length, get_or, take, drop}
use lib.Seq.{take-take}
use borrow.Author.Tests.{le-leb}
use Rattle.flash.specs.Bytes.{Bytes, all_ff}
use Rattle.flash.proofs.Cases.{clash, and_both, between-yes}
use Rattle.flash.proofs.Blank.{byte_at}
use Rattle.frame.specs.declared.Edition.{Edition}
use Rattle.frame.specs.declared.Fault.{Fault}
use Rattle.frame.specs.declared.Field.TheVariants as field
use Rattle.frame.specs.Frame.{Frame, commit, host_of, encode, frame_len}
use Rattle.frame.specs.Reader.{wrong, fault, Slot, fits, has_length, decode, read_frame}
use Rattle.frame.specs.Reader.{Match, all, part, misfit, match, fault_at, of_match}
use Rattle.frame.specs.Sentences.{Wrong, Span, span, fields_of, WrongAt}
use Rattle.frame.proofs.Fit.{fit_at, Stopped, Stuck, match-stuck}
use Rattle.frame.proofs.Own.{has-length}
use Rattle.frame.proofs.Shape.{Covers, Covered}
use Rattle.frame.proofs.Layouts.{layout_at, slots_at, length_slots, begins_length, begins_fit, Begun, complete}
use Rattle.frame.proofs.Exact.{length_fits, on_read, stuck-before, wrong-sound, wrong-reads}
use Rattle.frame.proofs.Fields.{first_one}

-- ---- the slot at which a match stopped

record Stops (at : ℕ) (m : Match) (x : Fault) : Type 0 where
  slot_at : Slot
  stopped : Stopped m slot_at
  is : fault_at at slot_at ≡ x

of-wrong : (at n : ℕ) (b : Bool) (f : Frame) (m : Match) (x : Fault) → of_match at n b f m ≡ wrong x → Stops at m x
of-wrong at n b f all x q = let z : ◌≡◌ {A = ℕ} 0 1 = cc in absurd (omega arith)
of-wrong at n true f (part p) x q = let z : ◌≡◌ {A = ℕ} 0 1 = cc in absurd (omega arith)
of-wrong at n false f (part p) x q = record { slot_at = p; stopped = refl; is = cc }
of-wrong at n b f (misfit p) x q = record { slot_at = p; stopped = refl; is = cc }

covered-at : (l : List Span) (i o j : ℕ) (ps others : List Slot) (p : Slot) → j ≡ o + i → drop i ps ≡ p ∷ others → Covered l o ps → Covers l j p
covered-at l zero o j [] others p h q c = let z : ◌≡◌ {A = ℕ} 0 1 = cc in absurd (omega arith)
covered-at l (suc i) o j [] others p h q c = let z : ◌≡◌ {A = ℕ} 0 1 = cc in absurd (omega arith)
covered-at l zero o j (x ∷ ps) others p h q (c, d) =
    let s : x ≡ p = cc in
    let z : o ≡ j = omega arith in
    subst (λ (y : ℕ). Covers l y p) z (subst (Covers l o) s c)
covered-at l (suc i) o j (x ∷ ps) others p h q (c, d) = covered-at l i (suc o) j ps others p (omega arith) q d

-- ---- the first bad field

-- where a match stops: the frame that the bytes begin, and its field there
record Stop (e : Edition) (next : ℕ) (t : List ℕ) (p : Slot) : Type 0 where
  stuck : Stuck (slots_at e next t) t p
  begun : Begun e next t stuck.place
  before : stuck.place < get_or t 0 0
  covers : Covers (fields_of e begun.frame) stuck.place p

stop : (e : Edition) (next : ℕ) (t : List ℕ) (p : Slot) → has_length e next (get_or t 0 0) ≡ true → Stopped (match (slots_at e next t) t) p → Stop e next t p
stop e next t p q s =
    let ps : List Slot = slots_at e next t in
    let y : Stuck ps t p = match-stuck ps t p s in
    let h : y.place < length ps = stuck-before ps t p y in
    let z : Begun e next t y.place = complete e next t y.place q y.fit (omega arith) in
    record {
      stuck = y;
      begun = z;
      before = omega (arith, length_slots e next t q);
      covers = covered-at (fields_of e z.frame) y.place 0 y.place ps y.others p (omega arith) y.is_slots z.covered;
    }

module _ (e : Edition) (next at : ℕ) (t : List ℕ) (by : Bytes t) (w : Wrong e next t) where
  length_bad : length_fits e next t ≡ false → WrongAt e next at t (fault field.Length (at + 0))
  length_bad b = record {
    wrong = w;
    span = span field.Length 0 2;
    bad = record {
      frame = commit (host_of 0);
      has = inl refl;
      before = λ h. absurd (omega arith);
      none = λ f y.
          let n : get_or t 0 0 ≡ frame_len e f = begins_length e next t 2 f y.stands y.bytes (omega arith) in
          clash (length_fits e next t)
          (and_both (leb (get_or t 0 0) (length t)) (has_length e next (get_or t 0 0)) (le-leb (get_or t 0 0) (length t) (omega (arith, y.fits)))
          (ap (has_length e next) n ∙ has-length e next f y.stands)) b;
    };
    is = refl;
  }

  stuck_bad : (p : Slot) → get_or t 0 0 ≤ length t → Stop e next t p → WrongAt e next at t (fault_at at p)
  stuck_bad p room s =
      let y : Stuck (slots_at e next t) t p = s.stuck in
      let i : ℕ = y.place in
      let z : Begun e next t i = s.begun in
      let no : fits p (get_or t i 0) ≡ false = y.unfit (omega (arith, s.before)) in
      let lo : p.start ≤ i = s.covers.0 in
      ⊎_elim
      (λ a. clash (fits p (get_or t i 0)) (between-yes p.lo (get_or t i 0) p.hi (omega (arith, a.0)) (omega (arith, a.1, byte_at t i by))) no)
      (λ a. record {
        wrong = w;
        span = span p.field p.start a.0;
        bad = record {
          frame = z.frame;
          has = a.1;
          before = λ o. record {
            stands = z.stands;
            fits = omega (arith, z.size);
            bytes = sym (take-take p.start i t lo) ∙ ap (take p.start) (sym z.bytes) ∙ take-take p.start i (encode e z.frame) lo;
          };
          none = λ g q. clash (fits p (get_or t i 0)) (fit_at i a.0 (slots_at e next t) y.others p t y.is_slots a.2
              (begins_fit e next t a.0 g q.stands q.bytes (omega (arith, a.2)))) no;
        };
        is = refl;
      })
      s.covers.1

pub wrong-at-sound : (e : Edition) (next at : ℕ) (t : List ℕ) (x : Fault) → Bytes t → read_frame e next at t ≡ wrong x → WrongAt e next at t x
wrong-at-sound e next at t x by q =
    let w : Wrong e next t = wrong-sound e next at t x q in
    on_read e next at t (wrong x) q
    (λ a r. let z : ◌≡◌ {A = ℕ} 0 1 = cc in absurd (omega arith))
    (λ a b r.
    let s : fault field.Length (at + 0) ≡ x = ap (fault field.Length) (add-zero at) ∙ cc in
    subst (WrongAt e next at t) s (length_bad e next at t by w b))
    (λ l b c r. let z : ◌≡◌ {A = ℕ} 0 1 = cc in absurd (omega arith))
    (λ a l b r.
    let m : Match = match (slots_at e next t) t in
    let y : Stops at m x = of-wrong at (get_or t 0 0) (layout_at e next t).tears (decode e (get_or t 2 0) (get_or t 0 0) t) m x r in
    subst (WrongAt e next at t) y.is (stuck_bad e next at t by w y.slot_at l (stop e next t y.slot_at b y.stopped)))

pub wrong-at-reads : (e : Edition) (next at : ℕ) (t : List ℕ) (x : Fault) → Bytes t → WrongAt e next at t x → read_frame e next at t ≡ wrong x
wrong-at-reads e next at t x by y =
    let r : (d : Fault) × (read_frame e next at t ≡ wrong d) = wrong-reads e next at t y.wrong in
    let z : WrongAt e next at t r.0 = wrong-at-sound e next at t r.0 by r.1 in
    let same : z.span ≡ y.span = first_one e next t z.span y.span z.bad y.bad in
    r.1 ∙ ap wrong (z.is ∙ ap (λ (s : Span). fault s.field (at + s.start)) same ∙ sym y.is)

-- ---- the place of a fault lies in the bytes that were read

-- a fault at `at` or after it, before m bytes more
abbrev pub PlacedIn : ℕ → ℕ → Fault → Type 0
PlacedIn at m x = (at ≤ x.place) × (x.place < at + m)

some : (t : List ℕ) → all_ff t ≡ false → 1 ≤ length t
unfolding all_ff
some [] a = let z : ◌≡◌ {A = ℕ} 0 1 = cc in absurd (omega arith)
some (b ∷ t) a = omega arith

pub fault-placed : (e : Edition) (next at : ℕ) (t : List ℕ) (x : Fault) → read_frame e next at t ≡ wrong x → PlacedIn at (length t) x
fault-placed e next at t x q =
    on_read e next at t (wrong x) q
    (λ a r. let z : ◌≡◌ {A = ℕ} 0 1 = cc in absurd (omega arith))
    (λ a b r.
    let s : fault field.Length at ≡ x = cc in
    subst (PlacedIn at (length t)) s (omega arith, omega (arith, some t a)))
    (λ l b c r. let z : ◌≡◌ {A = ℕ} 0 1 = cc in absurd (omega arith))
    (λ a l b r.
    let m : Match = match (slots_at e next t) t in
    let y : Stops at m x = of-wrong at (get_or t 0 0) (layout_at e next t).tears (decode e (get_or t 2 0) (get_or t 0 0) t) m x r in
    let s : Stop e next t y.slot_at = stop e next t y.slot_at b y.stopped in
    subst (PlacedIn at (length t)) y.is (omega arith, omega (arith, s.covers.0, s.before)))
