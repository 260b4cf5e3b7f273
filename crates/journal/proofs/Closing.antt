-- A torn frame closed in place: what the block holds after each write.
use mathlib.Core.Path.{◌≡◌, refl, sym, ap, subst, ◌∙◌}
use mathlib.Core.List.{List, [], ◌∷◌, ◌++◌, append_assoc}
use mathlib.Core.Logic.{◌⊎◌, inl, inr}
use Prim.Native.Nat.{ℕ, zero, suc, ◌+◌, ◌-◌, ◌≤◌, ◌<◌}
use native.Mathlib.Omega.{arith}
use lib.Bits.{bit_and, and_zero_r}
use lib.Dec.{eqb}
use lib.ListN.{length, get_or, take, set, replicate, length-append, length-replicate}
use lib.Seq.{get_or-append-add}
use borrow.Author.Tests.{eqb-true, eqb-false, eq-eqb, ne_eqb}
use Rattle.flash.specs.Bytes.{Bytes}
use Rattle.flash.specs.Flash.{program_at, Write, write, write_all}
use Rattle.flash.proofs.Cases.{on_test}
use Rattle.flash.proofs.Blank.{bytes_right}
use Rattle.flash.proofs.Image.{length-program, program-same, program-other, bytes-program}
use Rattle.flash.proofs.Offsets.{Below, Off}
use Rattle.frame.specs.declared.Edition.{Edition}
use Rattle.frame.specs.Frame.{Frame, closed, finish, encode, encode_all, total, next_of}
use Rattle.frame.specs.Reader.{Tail, clean, cut, bad}
use Rattle.frame.specs.Sentences.{Torn}
use Rattle.frame.proofs.Encode.{length-all, encode_snoc, stands-append}
use Rattle.frame.proofs.Scanning.{scan-blank}
use Rattle.frame.proofs.Scanned.{tail-cut}
use Rattle.frame.proofs.Closing.{Closable, Closes, ignored, torn-closable, closing-length, closing-kind, closing-high, closing-finish}
use Rattle.journal.specs.Block.{Journal, journal, header_len, valid_data, header, torn_len, closing, changing, close_writes, close_byte}
use Rattle.journal.specs.Sentences.{ValidBlock, closes_in, ClosingExact}
use Rattle.journal.proofs.Blocks.{Okay, layout-size}
use Rattle.journal.proofs.States.{Contents, contents-valid, valid_inv}
use Rattle.journal.proofs.Sentences.{scan-torn, valid-state, valid-is}
use Rattle.journal.proofs.Building.{Lands, lands_ff}

-- the torn frame's bytes, once it is closed
pub record Closed (b : List ℕ) (w : Journal) (n : ℕ) : Type 0 where
  pub value : List ℕ
  pub long : 5 + length value ≡ n
  pub contents : Contents b (journal w.edition w.time (w.frames ++ (closed value ∷ [])) clean)

-- what each write finds, and what the last leaves: of a block b that holds w, whose torn frame has n bytes
abbrev Goes : Journal → ℕ → List ℕ → List Write → Type 0
Goes w n b [] = Closed b w n
Goes w n b (x ∷ xs) =
    Contents b w × Lands b x × (x.byte ≡ close_byte (eqb 1 (length (x ∷ xs)))) × Goes w n (program_at b x.at x.byte) xs

-- ---- writes behind a front

set-behind : (f t : List ℕ) (i a : ℕ) → set (f ++ t) (length f + i) a ≡ f ++ set t i a
set-behind [] t i a = let e : 0 + i ≡ i = omega arith in ap (λ (j : ℕ). set t j a) e
set-behind (x ∷ f) t i a =
    let e : suc (length f) + i ≡ suc (length f + i) = omega arith in
    ap (λ (j : ℕ). set (x ∷ (f ++ t)) j a) e ∙ ap (λ (l : List ℕ). x ∷ l) (set-behind f t i a)

program-behind : (f t : List ℕ) (i v : ℕ) → program_at (f ++ t) (length f + i) v ≡ f ++ program_at t i v
program-behind f t i v =
    ap (λ (x : ℕ). set (f ++ t) (length f + i) (bit_and x v)) (get_or-append-add f t i 0) ∙ set-behind f t i (bit_and (get_or t i 0) v)

-- other bytes' writes must still be made, or not
changing-off : (b : List ℕ) (o v : ℕ) (ws : List Write) → Off o ws → changing (program_at b o v) ws ≡ changing b ws
unfolding changing
changing-off b o v [] a = refl
changing-off b o v (w ∷ ws) (n, a) =
    let same : get_or (program_at b o v) w.at 0 ≡ get_or b w.at 0 = program-other b o v w.at n in
    on_test (eqb (get_or b w.at 0) w.byte)
    (λ t. rw (ap (λ (x : ℕ). eqb x w.byte) same ∙ t, t, changing) (changing-off b o v ws a))
    (λ t. rw (ap (λ (x : ℕ). eqb x w.byte) same ∙ t, t, changing) (ap (λ (l : List Write). w ∷ l) (changing-off b o v ws a)))

-- ---- the block by its tail

module _ {b₀ : List ℕ} {w : Journal} {n : ℕ} (c : Contents b₀ w) (torn : w.tail ≡ cut n) where
  abbrev ed : Edition
  ed = w.edition

  abbrev next : ℕ
  next = next_of 0 w.frames

  abbrev end : ℕ
  end = header_len + total ed w.frames

  -- header and frames
  front : List ℕ
  front = header ed w.time valid_data ++ encode_all ed w.frames

  front_long : length front ≡ end
  unfolding front
  front_long = omega (arith, length-all ed w.frames)

  torn_block : (t : List ℕ) → Torn ed next t n → Contents (front ++ t) w
  unfolding front
  torn_block t y =
      record {
        rest = t;
        layout = record {
          is = append_assoc (header ed w.time valid_data) (encode_all ed w.frames) t;
          stands = c.layout.stands;
          time_lo = c.layout.time_lo;
          time_hi = c.layout.time_hi;
          size = refl;
        };
        reads = scan-torn ed next end t n y ∙ ap (λ (x : Tail). record { frames = []; tail = x }) (sym torn);
        okay = c.okay;
        clean_is = λ q. let z : cut n ≡ clean = sym torn ∙ q in let z' : ◌≡◌ {A = ℕ} 0 1 = cc in absurd (omega arith);
      }

  closed_block : (t : List ℕ) → Closes ed next end t n → Closed (front ++ program_at t (n - 1) finish) w n
  unfolding front
  closed_block t y =
      let v : List ℕ = ignored t n in
      let f : Frame = closed v in
      let ff : List ℕ = replicate (length t - n) 255 in
      record {
        value = v;
        long = y.long;
        contents = record {
          rest = ff;
          layout = record {
            is = append_assoc (header ed w.time valid_data) (encode_all ed w.frames) (program_at t (n - 1) finish)
                ∙ ap (λ (l : List ℕ). header ed w.time valid_data ++ (encode_all ed w.frames ++ l)) y.bytes
                ∙ ap (λ (l : List ℕ). header ed w.time valid_data ++ l)
                (sym (append_assoc (encode_all ed w.frames) (encode ed f) ff) ∙ ap (λ (l : List ℕ). l ++ ff) (sym (encode_snoc ed w.frames f)));
            stands = stands-append ed 0 w.frames (f ∷ []) c.layout.stands (y.stands, tt);
            time_lo = c.layout.time_lo;
            time_hi = c.layout.time_hi;
            size = refl;
          };
          reads = scan-blank ed (next_of 0 (w.frames ++ (f ∷ []))) (header_len + total ed (w.frames ++ (f ∷ []))) (length t - n);
          okay = tt;
          clean_is = λ q. ap (λ (m : ℕ). replicate m 255) (sym (length-replicate (length t - n) 255));
        };
      }

  -- ---- one write: its byte stands already, or it is made

  abbrev at : ℕ → ℕ → Write
  at i v = write (length front + i) v

  byte_there : (t : List ℕ) (i : ℕ) → get_or (front ++ t) (length front + i) 0 ≡ get_or t i 0
  byte_there t i = get_or-append-add front t i 0

  one : (t : List ℕ) (i v : ℕ) (ws : List Write) → Off (length front + i) ws → Torn ed next t n
      → (get_or t i 0 ≡ v → Goes w n (front ++ t) (changing (front ++ t) ws))
      → ((get_or t i 0 ≡ v → ⊥) → Lands (front ++ t) (at i v) × (v ≡ close_byte (eqb 1 (suc (length (changing (front ++ t) ws)))))
      × Goes w n (front ++ program_at t i v) (changing (front ++ program_at t i v) ws))
      → Goes w n (front ++ t) (changing (front ++ t) (at i v ∷ ws))
  unfolding changing
  one t i v ws off y skips makes =
      on_test (eqb (get_or (front ++ t) (length front + i) 0) v)
      (λ q. rw (q, changing) (skips (sym (byte_there t i) ∙ eqb-true (get_or (front ++ t) (length front + i) 0) v q)))
      (λ q. rw (q, changing) (go (makes (λ e. eqb-false (get_or (front ++ t) (length front + i) 0) v q (byte_there t i ∙ e)))))
    where
      go : Lands (front ++ t) (at i v) × (v ≡ close_byte (eqb 1 (suc (length (changing (front ++ t) ws)))))
          × Goes w n (front ++ program_at t i v) (changing (front ++ program_at t i v) ws)
          → Goes w n (front ++ t) (at i v ∷ changing (front ++ t) ws)
      go (l, z, g) =
          let e : front ++ program_at t i v ≡ program_at (front ++ t) (length front + i) v = sym (program-behind front t i v) in (
            torn_block t y,
            l,
            z,
            subst (Goes w n (program_at (front ++ t) (length front + i) v))
                (ap (λ (b : List ℕ). changing b ws) e ∙ changing-off (front ++ t) (length front + i) v ws off)
                (subst (λ (b : List ℕ). Goes w n b (changing (front ++ program_at t i v) ws)) e g),
          )

  -- ---- the four writes, the last first

  lands_zero : (t : List ℕ) (i : ℕ) → get_or t i 0 ≡ 255 → Lands (front ++ t) (at i 0)
  lands_zero t i e = lands_ff (front ++ t) (at i 0) (omega arith) (byte_there t i ∙ e)

  -- a finish byte is still to come
  not_last : (b : List ℕ) (x : Write) (ws : List Write) → (get_or b x.at 0 ≡ x.byte → ⊥) → (ys : List Write)
      → 0 ≡ close_byte (eqb 1 (suc (length (changing b (ws ++ (x ∷ ys))))))
  unfolding changing
  not_last b x [] h ys = rw (ne_eqb (get_or b x.at 0) x.byte h, changing)
      (sym (ap close_byte (ne_eqb 1 (suc (suc (length (changing b ys)))) (omega arith))))
  not_last b x (w ∷ ws) h ys =
      on_test (eqb (get_or b w.at 0) w.byte) (λ q. rw (q, changing) (not_last b x ws h ys))
      (λ q. rw (q, changing) (sym (ap close_byte (ne_eqb 1 (suc (suc (length (changing b (ws ++ (x ∷ ys)))))) (omega arith)))))

  unfinished : (t : List ℕ) → Closable ed t n → get_or (front ++ t) (length front + (n - 1)) 0 ≡ finish → ⊥
  unfinished t y e = omega (arith, y.unfinished, byte_there t (n - 1))

  of_finish : (t : List ℕ) → Bytes t → Torn ed next t n → get_or t 1 0 ≡ 0 → get_or t 2 0 ≡ 0 → get_or t 3 0 ≡ 0
      → Goes w n (front ++ t) (changing (front ++ t) (at (n - 1) finish ∷ []))
  unfolding changing
  of_finish t bt y b1 b2 b3 =
      let z : Closable ed t n = torn-closable ed next t n y in
      one t (n - 1) finish [] tt y (λ e. absurd (omega (arith, z.unfinished)))
      (λ e. (
        lands_ff (front ++ t) (at (n - 1) finish) (omega arith) (byte_there t (n - 1) ∙ z.unfinished),
        refl,
        closed_block t (closing-finish ed next end t n bt z b1 b2 b3),
      ))

  of_high : (t : List ℕ) → Bytes t → Torn ed next t n → get_or t 1 0 ≡ 0 → get_or t 2 0 ≡ 0
      → Goes w n (front ++ t) (changing (front ++ t) (at 3 0 ∷ at (n - 1) finish ∷ []))
  of_high t bt y b1 b2 =
      let z : Closable ed t n = torn-closable ed next t n y in
      one t 3 0 (at (n - 1) finish ∷ []) ((λ e. omega (arith, z.least)), tt) y (λ e. of_finish t bt y b1 b2 e)
      (λ e. (
        lands_zero t 3 (other z.high e),
        not_last (front ++ t) (at (n - 1) finish) [] (unfinished t z) [],
        of_finish (program_at t 3 0) (bytes-program t 3 0 bt) (closing-high ed next t n z b1 b2) (program-other t 3 0 1 (omega arith) ∙ b1)
            (program-other t 3 0 2 (omega arith) ∙ b2) (program-same t 3 0 ∙ and_zero_r (get_or t 3 0)),
      ))
    where
      other : (get_or t 3 0 ≡ 0) ⊎ (get_or t 3 0 ≡ 255) → (get_or t 3 0 ≡ 0 → ⊥) → get_or t 3 0 ≡ 255
      other (inl p) h = absurd (h p)
      other (inr p) h = p

  of-kind : (t : List ℕ) → Bytes t → Torn ed next t n → get_or t 1 0 ≡ 0
      → Goes w n (front ++ t) (changing (front ++ t) (at 2 0 ∷ at 3 0 ∷ at (n - 1) finish ∷ []))
  of-kind t bt y b1 =
      let z : Closable ed t n = torn-closable ed next t n y in
      one t 2 0 (at 3 0 ∷ at (n - 1) finish ∷ []) ((λ e. omega arith), ((λ e. omega (arith, z.least)), tt)) y (λ e. of_high t bt y b1 e)
      (λ e. (
        kind_lands t y,
        not_last (front ++ t) (at (n - 1) finish) (at 3 0 ∷ []) (unfinished t z) [],
        of_high (program_at t 2 0) (bytes-program t 2 0 bt) (closing-kind ed next t n z b1) (program-other t 2 0 1 (omega arith) ∙ b1)
            (program-same t 2 0 ∙ and_zero_r (get_or t 2 0)),
      ))
    where
      kind_lands : (t : List ℕ) → Torn ed next t n → Lands (front ++ t) (at 2 0)
      kind_lands t y =
          let z : Closable ed t n = torn-closable ed next t n y in
          record {
            inside = omega (arith, length-append front t, z.least, z.fits);
            before = inr (inr (record {
              journal = w;
              long = n;
              is-valid = contents-valid (torn_block t y);
              is-torn = torn;
              at_kind = omega (arith, front_long);
              to_zero = refl;
            }));
            after = program-same (front ++ t) (length front + 2) 0 ∙ and_zero_r (get_or (front ++ t) (length front + 2) 0);
          }

  of_length : (t : List ℕ) → Bytes t → Torn ed next t n
      → Goes w n (front ++ t) (changing (front ++ t) (at 1 0 ∷ at 2 0 ∷ at 3 0 ∷ at (n - 1) finish ∷ []))
  of_length t bt y =
      let z : Closable ed t n = torn-closable ed next t n y in
      one t 1 0 (at 2 0 ∷ at 3 0 ∷ at (n - 1) finish ∷ []) ((λ e. omega arith), ((λ e. omega arith), ((λ e. omega (arith, z.least)), tt))) y
      (λ e. of-kind t bt y e)
      (λ e. (
        lands_zero t 1 (other z.long e),
        not_last (front ++ t) (at (n - 1) finish) (at 2 0 ∷ at 3 0 ∷ []) (unfinished t z) [],
        of-kind (program_at t 1 0) (bytes-program t 1 0 bt) (closing-length ed next t n y) (program-same t 1 0 ∙ and_zero_r (get_or t 1 0)),
      ))
    where
      other : (get_or t 1 0 ≡ 0) ⊎ (get_or t 1 0 ≡ 255) → (get_or t 1 0 ≡ 0 → ⊥) → get_or t 1 0 ≡ 255
      other (inl p) h = absurd (h p)
      other (inr p) h = p

  -- of the block itself
  goes_closed : Bytes b₀ → Goes w n b₀ (closes_in b₀ w)
  unfolding front
  goes_closed by =
      let t : List ℕ = c.rest in
      let is : b₀ ≡ front ++ t = c.layout.is ∙ sym (append_assoc (header ed w.time valid_data) (encode_all ed w.frames) t) in
      let y : Torn ed next t n = tail-cut ed next end t n (c.reads ∙ ap (λ (x : Tail). record { frames = []; tail = x }) torn) in
      let bt : Bytes t = bytes_right front t (subst Bytes is by) in
      subst (λ (b : List ℕ). Goes w n b (closes_in b w)) (sym is)
      (subst (Goes w n (front ++ t)) (sym (ap (λ (x : Tail). closes_at x) torn ∙ ap (λ (m : ℕ). changing (front ++ t) (closing m n)) (sym front_long)))
      (of_length t bt y))
    where
      closes_at : Tail → List Write
      closes_at x = close_writes (front ++ c.rest) end x

-- ---- each write by its number

goes-during : (w : Journal) (n : ℕ) (b : List ℕ) (ws : List Write) → Goes w n b ws → (i : ℕ) → i < length ws
    → Contents (write_all b (take i ws)) w × Lands (write_all b (take i ws)) (get_or ws i (write 0 0))
unfolding write_all
goes-during w n b [] g i h = absurd (omega arith)
goes-during w n b (x ∷ xs) (c, l, z, g) zero h = (c, l)
goes-during w n b (x ∷ xs) (c, l, z, g) (suc i) h = goes-during w n (program_at b x.at x.byte) xs g i (omega arith)

goes-bytes : (w : Journal) (n : ℕ) (b : List ℕ) (ws : List Write) → Goes w n b ws → (i : ℕ) → i < length ws
    → (get_or ws i (write 0 0)).byte ≡ close_byte (eqb (suc i) (length ws))
goes-bytes w n b [] g i h = absurd (omega arith)
goes-bytes w n b (x ∷ xs) (c, l, z, g) zero h = z
goes-bytes w n b (x ∷ xs) (c, l, z, g) (suc i) h =
    goes-bytes w n (program_at b x.at x.byte) xs g i (omega arith) ∙ ap close_byte (up (suc i) (length xs))
  where
    up : (a d : ℕ) → eqb a d ≡ eqb (suc a) (suc d)
    up a d =
        on_test (eqb a d) (λ t. t ∙ sym (eq-eqb (suc a) (suc d) (ap suc (eqb-true a d t))))
        (λ t. t ∙ sym (ne_eqb (suc a) (suc d) (λ e. eqb-false a d t (omega arith))))

goes-below : (w : Journal) (n : ℕ) (b : List ℕ) (ws : List Write) → Goes w n b ws → Below (length b) ws
goes-below w n b [] g = tt
goes-below w n b (x ∷ xs) (c, l, z, g) = (
  l.inside,
  subst (λ (m : ℕ). Below m xs) (length-program b x.at x.byte) (goes-below w n (program_at b x.at x.byte) xs g),
)

goes_after : (w : Journal) (n : ℕ) (b : List ℕ) (ws : List Write) → Goes w n b ws → Closed (write_all b ws) w n
unfolding write_all
goes_after w n b [] g = g
goes_after w n b (x ∷ xs) (c, l, z, g) = goes_after w n (program_at b x.at x.byte) xs g

-- ---- the writes that close what follows the frames of a block

pub record ClosesWell (b : List ℕ) (w : Journal) : Type 0 where
  pub fits : header_len + total w.edition w.frames + torn_len w.tail ≤ length b
  pub below : Below (length b) (closes_in b w)
  pub bytes : (i : ℕ) → i < length (closes_in b w) → (get_or (closes_in b w) i (write 0 0)).byte ≡ close_byte (eqb (suc i) (length (closes_in b w)))
  pub lands : (i : ℕ) → i < length (closes_in b w) → Lands (write_all b (take i (closes_in b w))) (get_or (closes_in b w) i (write 0 0))
  pub during : (i : ℕ) → i < length (closes_in b w) → Contents (write_all b (take i (closes_in b w))) w
  pub after : (n : ℕ) → w.tail ≡ cut n → Closed (write_all b (closes_in b w)) w n

pub closes-well : {b : List ℕ} {w : Journal} → Contents b w → Bytes b → ClosesWell b w
closes-well {b} {w} c by = go w.tail refl
  where
    size : length b ≡ header_len + total w.edition w.frames + length c.rest
    size = layout-size c.layout

    none : closes_in b w ≡ [] → torn_len w.tail ≡ 0 → ((n : ℕ) → w.tail ≡ cut n → ⊥) → ClosesWell b w
    none e z never =
        let few : length (closes_in b w) ≡ 0 = ap (λ (l : List Write). length l) e in
        record {
          fits = omega (arith, size);
          below = subst (Below (length b)) (sym e) tt;
          bytes = λ i h. absurd (omega arith);
          lands = λ i h. absurd (omega arith);
          during = λ i h. absurd (omega arith);
          after = λ n q. absurd (never n q);
        }

    go : (t : Tail) → w.tail ≡ t → ClosesWell b w
    go clean q =
        none (ap (close_writes b (header_len + total w.edition w.frames)) q) (ap torn_len q)
        (λ n p. let z : cut n ≡ clean = sym p ∙ q in let z' : ◌≡◌ {A = ℕ} 0 1 = cc in omega arith)
    go (bad f) q = absurd (subst Okay q c.okay)
    go (cut n) q =
        let g : Goes w n b (closes_in b w) = goes_closed c q by in
        let y : Closable w.edition c.rest n =
        torn-closable w.edition (next_of 0 w.frames) c.rest n
        (tail-cut w.edition (next_of 0 w.frames) (header_len + total w.edition w.frames) c.rest n
        (c.reads ∙ ap (λ (x : Tail). record { frames = []; tail = x }) q)) in
        record {
          fits = omega (arith, size, y.fits, ap torn_len q);
          below = goes-below w n b (closes_in b w) g;
          bytes = goes-bytes w n b (closes_in b w) g;
          lands = λ i h. (goes-during w n b (closes_in b w) g i h).1;
          during = λ i h. (goes-during w n b (closes_in b w) g i h).0;
          after = λ m p. subst (Closed (write_all b (closes_in b w)) w) (same p q) (goes_after w n b (closes_in b w) g);
        }
      where
        same : {m : ℕ} → w.tail ≡ cut m → w.tail ≡ cut n → n ≡ m
        same {m} p q = let z : cut n ≡ cut m = sym q ∙ p in cc

-- ---- in document 02's words

valid-contents : {b : List ℕ} {j : Journal} → Bytes b → ValidBlock b j → Contents b j
valid-contents {b} {j} by y =
    valid_inv b j by (omega (arith, ap (λ (l : List ℕ). length l) y.bytes)) (valid-state b j y)

pub closing-exact : ClosingExact
closing-exact =
    record {
      torn_still = λ b j i by y h. valid-is (write_all b (take i (closes_in b j))) j ((closes-well (valid-contents by y) by).during i h);
      closed_then = λ b j n by y q.
          let z : Closed (write_all b (closes_in b j)) j n = (closes-well (valid-contents by y) by).after n q in (
            z.value,
            omega (arith, z.long),
            valid-is (write_all b (closes_in b j)) (journal j.edition j.time (j.frames ++ (closed z.value ∷ [])) clean) z.contents,
          );
    }
