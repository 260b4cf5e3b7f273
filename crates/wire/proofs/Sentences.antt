-- Messages, a put's value and the log page are as document 01 words them.
use mathlib.Core.Path.{◌≡◌, refl, sym, ap, ap₂, subst, ◌∙◌}
use mathlib.Core.List.{List, ◌∷◌}
use mathlib.Core.Bool.{Bool, true, false, ◌&&◌}
use Prim.Native.Nat.{ℕ, suc, ◌+◌, ◌-◌, ◌*◌, ◌/◌, ◌%◌, ◌≤◌, ◌<◌}
use native.Mathlib.Omega.{arith}
use lib.Dec.{eqb, leb}
use lib.ListN.{length, get_or, drop, length-append, length-drop, get_or-append}
use lib.Seq.{drop-cons, get_or-append-add, get_or-drop, ext_get_or}
use borrow.Author.Tests.{eqb-true, eq-eqb, leb-true, le-leb}
use Rattle.std.specs.Bool.{then_some}
use Rattle.flash.proofs.Cases.{and_both, and_left, and_right}
use Rattle.flash.specs.Bytes.{Bytes}
use Rattle.flash.proofs.Blank.{byte_at, le16_u16, le32_u32}
use Rattle.frame.specs.declared.ObjectId.{ObjectId}
use Rattle.frame.specs.Frame.{id_max, value_max, id_of}
use Rattle.wire.specs.declared.Page.TheVariants.{Summary}
use Rattle.wire.specs.declared.Request.{Request}
use Rattle.wire.specs.declared.Request.TheVariants.{Put, Delete, Commit, Abort, Read, Log, Convert}
use Rattle.wire.specs.Message.{Parsed, word_at, id_in, only_id, no_body, id_and_value, summary_page, of_kind, parse, log_page, with_page}
use Rattle.std.specs.Prelude.{Some, None}
use Rattle.wire.specs.Sentences.{number2, Headed, Means, MessagesExact, MalformedExact, ReadKind, ReadKindExact, ValueExact, PageIn, PageExact}

-- ---- from what is read to what it means

abbrev Meant : List ℕ → Parsed → Type 0
Meant m (Some q) = Means m q
Meant m None = Unit {0}

meant_if : (m : List ℕ) (b : Bool) (q : Request) → (b ≡ true → Means m q) → Meant m (then_some b q)
meant_if m true q f = f refl
meant_if m false q f = tt

either : (P : Parsed → Type 0) (b : Bool) (x y : Parsed) → (b ≡ true → P x) → P y → P (elim b [ true ↦ x | false ↦ y ])
either P true x y p q = p refl
either P false x y p q = q

only-id : (m : List ℕ) → only_id m ≡ true → (length m ≡ 6) × (number2 m 4 ≡ (id_in m).0) × ((id_in m).0 ≤ 255)
only-id m e = (
  eqb-true (length m) 6 (and_left (eqb (length m) 6) (leb (word_at m 4) id_max) e),
  refl,
  leb-true (word_at m 4) id_max (and_right (eqb (length m) 6) (leb (word_at m 4) id_max) e),
)

id_and_value_lem : (m : List ℕ) → id_and_value m ≡ true
    → (6 ≤ length m) × (length m ≤ 6 + value_max) × (number2 m 4 ≡ (id_in m).0) × ((id_in m).0 ≤ 255)
id_and_value_lem m e =
    let r = and_right (leb 6 (length m)) (leb (length m) (6 + value_max) && leb (word_at m 4) id_max) e in (
      leb-true 6 (length m) (and_left (leb 6 (length m)) (leb (length m) (6 + value_max) && leb (word_at m 4) id_max) e),
      leb-true (length m) (6 + value_max) (and_left (leb (length m) (6 + value_max)) (leb (word_at m 4) id_max) r),
      refl,
      leb-true (word_at m 4) id_max (and_right (leb (length m) (6 + value_max)) (leb (word_at m 4) id_max) r),
    )

module _ (m : List ℕ) (l : 4 ≤ length m) (w : number2 m 0 ≡ length m) where
  headed : (k : ℕ) → eqb (word_at m 2) k ≡ true → Headed m k
  headed k e = record { long = l; length_is = w; kind_is = eqb-true (word_at m 2) k e }

  meant_kind : Meant m (of_kind (word_at m 2) m)
  meant_kind =
      either (Meant m) _ _ _
      (λ t. meant_if m (id_and_value m) (Put (id_in m)) (λ e. let y = id_and_value_lem m e in (headed 0x0101 t, y.0, y.1, y.2, y.3)))
      (either (Meant m) _ _ _
      (λ t. meant_if m (only_id m) (Delete (id_in m)) (λ e. let y = only-id m e in (headed 0x0102 t, y.0, y.1, y.2)))
      (either (Meant m) _ _ _ (λ t. meant_if m (no_body m) Commit (λ e. (headed 0x0103 t, eqb-true (length m) 4 e)))
      (either (Meant m) _ _ _ (λ t. meant_if m (no_body m) Abort (λ e. (headed 0x0104 t, eqb-true (length m) 4 e)))
      (either (Meant m) _ _ _
      (λ t. meant_if m (only_id m) (Read (id_in m)) (λ e. let y = only-id m e in (headed 0x0105 t, y.0, y.1, y.2)))
      (either (Meant m) _ _ _
      (λ t. meant_if m (summary_page m) (Log Summary) (λ e. (
        headed 0x0106 t,
        eqb-true (length m) 5 (and_left (eqb (length m) 5) (eqb (get_or m 4 0) 1) e),
        eqb-true (get_or m 4 0) 1 (and_right (eqb (length m) 5) (eqb (get_or m 4 0) 1) e),
      )))
      (either (Meant m) _ _ _ (λ t. meant_if m (no_body m) Convert (λ e. (headed 0x0108 t, eqb-true (length m) 4 e))) tt))))))

meant_parse : (m : List ℕ) → Meant m (parse m)
unfolding parse
meant_parse m =
    either (Meant m) (leb 4 (length m) && eqb (word_at m 0) (length m)) _ _
    (λ t. meant_kind m (leb-true 4 (length m) (and_left (leb 4 (length m)) (eqb (word_at m 0) (length m)) t))
    (eqb-true (word_at m 0) (length m) (and_right (leb 4 (length m)) (eqb (word_at m 0) (length m)) t)))
    tt

-- ---- and back

parse-kind : (m : List ℕ) (k : ℕ) → Headed m k → parse m ≡ of_kind k m
unfolding parse
parse-kind m k h =
    let t : (leb 4 (length m) && eqb (word_at m 0) (length m)) ≡ true =
    and_both (leb 4 (length m)) (eqb (word_at m 0) (length m)) (le-leb 4 (length m) h.long) (eq-eqb (word_at m 0) (length m) h.length_is) in
    rw (t, parse) (ap (λ (x : ℕ). of_kind x m) h.kind_is)

the_id : (m : List ℕ) (i : ObjectId) → number2 m 4 ≡ i.0 → id_in m ≡ i
the_id m i e = ap id_of e

is-only-id : (m : List ℕ) (i : ObjectId) → length m ≡ 6 → number2 m 4 ≡ i.0 → i.0 ≤ 255 → only_id m ≡ true
is-only-id m i l w h = and_both (eqb (length m) 6) (leb (word_at m 4) id_max) (eq-eqb (length m) 6 l) (le-leb (word_at m 4) id_max (omega arith))

parse-means : (m : List ℕ) (q : Request) → Means m q → parse m ≡ Some q
parse-means m (Put i) (h, a, b, w, k) =
    let t : id_and_value m ≡ true =
    and_both (leb 6 (length m)) (leb (length m) (6 + value_max) && leb (word_at m 4) id_max) (le-leb 6 (length m) a)
    (and_both (leb (length m) (6 + value_max)) (leb (word_at m 4) id_max) (le-leb (length m) (6 + value_max) b)
    (le-leb (word_at m 4) id_max (omega arith))) in
    parse-kind m 0x0101 h ∙ ap₂ (λ (x : Bool) (j : ObjectId). then_some x (Put j)) t (the_id m i w)
parse-means m (Delete i) (h, l, w, k) =
    parse-kind m 0x0102 h ∙ ap₂ (λ (x : Bool) (j : ObjectId). then_some x (Delete j)) (is-only-id m i l w k) (the_id m i w)
parse-means m Commit (h, l) = parse-kind m 0x0103 h ∙ ap (λ (x : Bool). then_some x Commit) (eq-eqb (length m) 4 l)
parse-means m Abort (h, l) = parse-kind m 0x0104 h ∙ ap (λ (x : Bool). then_some x Abort) (eq-eqb (length m) 4 l)
parse-means m (Read i) (h, l, w, k) =
    parse-kind m 0x0105 h ∙ ap₂ (λ (x : Bool) (j : ObjectId). then_some x (Read j)) (is-only-id m i l w k) (the_id m i w)
parse-means m (Log Summary) (h, l, p) =
    parse-kind m 0x0106 h
    ∙ ap (λ (x : Bool). then_some x (Log Summary))
    (and_both (eqb (length m) 5) (eqb (get_or m 4 0) 1) (eq-eqb (length m) 5 l) (eq-eqb (get_or m 4 0) 1 p))
parse-means m Convert (h, l) = parse-kind m 0x0108 h ∙ ap (λ (x : Bool). then_some x Convert) (eq-eqb (length m) 4 l)

pub messages_exact : MessagesExact
unfolding MessagesExact
messages_exact m q = ((λ e. subst (Meant m) e (meant_parse m)), parse-means m q)

pub malformed-exact : MalformedExact
unfolding MalformedExact
malformed-exact m = (
  λ e q y. let z : None ≡ Some q = sym e ∙ parse-means m q y in let w : ◌≡◌ {A = ℕ} 0 1 = cc in omega arith,
  λ f. go (parse m) refl f,
)
  where
    go : (p : Parsed) → parse m ≡ p → ((q : Request) → Means m q → ⊥) → parse m ≡ None
    go None e f = e
    go (Some q) e f = absurd (f q (subst (Meant m) e (meant_parse m)))

pub value-exact : ValueExact
unfolding ValueExact
value-exact l₀ l₁ k₀ k₁ i₀ i₁ v = refl

-- ---- the log page

-- the bytes of a number that two, or four, bytes are
two_bytes : (a b n : ℕ) → a < 256 → a + b * 256 ≡ n → (a ≡ n % 256) × (b ≡ n / 256)
two_bytes a b n h e = (omega arith, omega arith)

four_bytes : (a b c d n : ℕ) → a < 256 → b < 256 → c < 256 → a + b * 256 + c * 65536 + d * 16777216 ≡ n
    → (a ≡ n % 256) × (b ≡ n / 256 % 256) × (c ≡ n / 65536 % 256) × (d ≡ n / 16777216)
four_bytes a b c d n h i j e = (omega arith, omega arith, omega arith, omega arith)

-- a list of 14 bytes or more, byte by byte
spelt : (l : List ℕ) → 14 ≤ length l
    → l ≡ get_or l 0 0 ∷ get_or l 1 0 ∷ get_or l 2 0 ∷ get_or l 3 0 ∷ get_or l 4 0 ∷ get_or l 5 0 ∷ get_or l 6 0 ∷ get_or l 7 0 ∷ get_or l 8 0 ∷ get_or l 9 0
    ∷ get_or l 10 0 ∷ get_or l 11 0 ∷ get_or l 12 0 ∷ get_or l 13 0 ∷ drop 14 l
spelt l h =
    let d : (i : ℕ) → i < 14 → drop i l ≡ get_or l i 0 ∷ drop (suc i) l = λ i k. drop-cons l i 0 (omega arith) in
    rw (
      ← d 13 (omega arith),
      ← d 12 (omega arith),
      ← d 11 (omega arith),
      ← d 10 (omega arith),
      ← d 9 (omega arith),
      ← d 8 (omega arith),
      ← d 7 (omega arith),
      ← d 6 (omega arith),
      ← d 5 (omega arith),
      ← d 4 (omega arith),
      ← d 3 (omega arith),
      ← d 2 (omega arith),
      ← d 1 (omega arith),
      ← d 0 (omega arith),
    ) refl

module _ (time count u s : ℕ) (was is : List ℕ) (h : 14 ≤ length was) where
  page_bytes : time < 4294967296 → count < 65536 → u < 65536 → s < 65536 → Bytes (log_page time count u s)
  page_bytes t c v z = (
    omega arith,
    (
      omega arith,
      (
        omega arith,
        (
          omega arith,
          (
            omega arith,
            (
              omega arith,
              (
                omega arith,
                (omega arith, (omega arith, (omega arith, (omega arith, (omega arith, (omega arith, (omega arith, tt))))))),
              ),
            ),
          ),
        ),
      ),
    ),
  )

  page_in : time < 4294967296 → count < 65536 → u < 65536 → s < 65536 → PageIn time count u s was (with_page (log_page time count u s) was)
  page_in t c v z =
      record {
        length_is = refl;
        kind_is = refl;
        time_is = le32_u32 time;
        count_is = le16_u16 count;
        used_is = le16_u16 u;
        size_is = le16_u16 s;
        bytes = λ i k.
            subst (λ (b : ℕ). b < 256) (sym (get_or-append (log_page time count u s) (drop 14 was) 0 i k))
            (byte_at (log_page time count u s) i (page_bytes t c v z));
        stay = λ i k.
            let e : i ≡ 14 + (i - 14) = omega arith in
            subst (λ (j : ℕ). get_or (with_page (log_page time count u s) was) j 0 ≡ get_or was j 0) (sym e)
            (get_or-append-add (log_page time count u s) (drop 14 was) (i - 14) 0 ∙ get_or-drop 14 was (i - 14) 0);
        as_long = length-append (log_page time count u s) (drop 14 was) ∙ omega (arith, length-drop 14 was);
      }

  page_is : PageIn time count u s was is → with_page (log_page time count u s) was ≡ is
  page_is p =
      let l : length (drop 14 is) ≡ length (drop 14 was) = omega (arith, length-drop 14 is, length-drop 14 was, p.as_long) in
      let r : drop 14 is ≡ drop 14 was =
      ext_get_or 0 (drop 14 is) (drop 14 was) l (λ i k. get_or-drop 14 is i 0 ∙ p.stay (14 + i) (omega arith) ∙ sym (get_or-drop 14 was i 0)) in
      let b : (i : ℕ) → i < 14 → get_or is i 0 < 256 = p.bytes in
      let n : (get_or is 0 0 ≡ 14) × (get_or is 1 0 ≡ 0) = two_bytes (get_or is 0 0) (get_or is 1 0) 14 (b 0 (omega arith)) p.length_is in
      let k : (get_or is 2 0 ≡ 1) × (get_or is 3 0 ≡ 2) = two_bytes (get_or is 2 0) (get_or is 3 0) 0x0201 (b 2 (omega arith)) p.kind_is in
      let t =
      four_bytes (get_or is 4 0) (get_or is 5 0) (get_or is 6 0) (get_or is 7 0) time (b 4 (omega arith)) (b 5 (omega arith)) (b 6 (omega arith))
      p.time_is in
      let c = two_bytes (get_or is 8 0) (get_or is 9 0) count (b 8 (omega arith)) p.count_is in
      let v = two_bytes (get_or is 10 0) (get_or is 11 0) u (b 10 (omega arith)) p.used_is in
      let z = two_bytes (get_or is 12 0) (get_or is 13 0) s (b 12 (omega arith)) p.size_is in
      sym (spelt is (omega (arith, p.as_long))
      ∙ rw (n.0, n.1, k.0, k.1, t.0, t.1, t.2, t.3, c.0, c.1, v.0, v.1, z.0, z.1, r) refl)

pub page-exact : PageExact
unfolding PageExact
page-exact time count u s was is t c v z h = (
  (λ e. subst (PageIn time count u s was) e (page_in time count u s was is h t c v z)),
  page_is time count u s was is h,
)

-- ---- messages of kind 0x0105, document 02, K8

pub read-kind-exact : ReadKindExact
unfolding ReadKindExact
read-kind-exact m = (
  λ e. record {
    long = leb-true 4 (length m) (and_left (leb 4 (length m)) (eqb (word_at m 2) 0x0105) e);
    kind_is = eqb-true (word_at m 2) 0x0105 (and_right (leb 4 (length m)) (eqb (word_at m 2) 0x0105) e);
  },
  λ k. and_both (leb 4 (length m)) (eqb (word_at m 2) 0x0105) (le-leb 4 (length m) k.long) (eq-eqb (word_at m 2) 0x0105 k.kind_is),
)

of-kind : (m : List ℕ) (k : ℕ) → Headed m k → ReadKind m → k ≡ 0x0105
of-kind m k h r = sym h.kind_is ∙ r.kind_is

-- such a message asks for a read of the id in it, and no other message for any
pub read_asked : (m : List ℕ) (q : Request) → Means m q → ReadKind m → q ≡ Read (id_in m)
read_asked m (Put i) (h, _, _, _, _) r = absurd (omega (arith, of-kind m 0x0101 h r))
read_asked m (Delete i) (h, _, _, _) r = absurd (omega (arith, of-kind m 0x0102 h r))
read_asked m Commit (h, _) r = absurd (omega (arith, of-kind m 0x0103 h r))
read_asked m Abort (h, _) r = absurd (omega (arith, of-kind m 0x0104 h r))
read_asked m (Read i) (h, l, n, b) r = ap (λ (k : ℕ). Read (id_of k)) (sym n)
read_asked m (Log Summary) (h, _, _) r = absurd (omega (arith, of-kind m 0x0106 h r))
read_asked m Convert (h, _) r = absurd (omega (arith, of-kind m 0x0108 h r))

pub asks_read : (m : List ℕ) (i : ObjectId) → Means m (Read i) → ReadKind m
asks_read m i (h, _, _, _) = record { long = h.long; kind_is = h.kind_is }
