-- A mount is refused exactly as the table's lines say; the states of blocks in words.
use mathlib.Core.Path.{◌≡◌, refl, sym, ap, ap₂, subst, ◌∙◌, subst₂}
use mathlib.Core.List.{List, [], ◌∷◌}
use mathlib.Core.Logic.{inl, inr}
use mathlib.Core.Option.{some, Option}
use mathlib.Core.Bool.{true, false}
use Prim.Native.Nat.{ℕ, ◌≤◌, ◌<◌}
use native.Mathlib.Omega.{arith}
use lib.Dec.{eqb}
use lib.ListN.{length}
use borrow.Author.Tests.{eqb-true, eqb-false}
use Rattle.flash.specs.Bytes.{Bytes}
use Rattle.flash.specs.Flash.{block, size_of}
use Rattle.flash.proofs.Cases.{on_test, on-order, clash}
use Rattle.flash.proofs.Image.{bytes-block}
use Rattle.frame.specs.declared.Fault.{Fault}
use Rattle.frame.specs.Reader.{fault}
use Rattle.journal.specs.Block.{Journal, valid, foreign, block_state, header_len}
use Rattle.journal.proofs.Sentences.{states-exact}
use Rattle.wire.specs.declared.Refusal.{Refusal}
use Rattle.wire.specs.declared.Refusal.TheVariants as refusal
use Rattle.wire.specs.declared.Answer.TheVariants.{Refused}
use Rattle.frame.specs.declared.Field.TheVariants as field
use Rattle.wire.specs.Answer.{number_of, refusal_number}
use Rattle.board.specs.declared.Phase.{Phase}
use Rattle.board.specs.declared.Phase.TheVariants.{Unmounted, Idle, Busy}
use Rattle.board.specs.declared.Record.{Record}
use Rattle.board.specs.Record.{allowed, unmounted, Out, refuse, answer_in}
use Rattle.board.specs.Step.{enter_wipe}
use Rattle.board.specs.Mount.{Store, upkeep, all_found, wipe_list, mount_job, mount_on}
use Rattle.board.specs.Demand2.{Accepted, Mounts}
use Rattle.board.specs.Table.{line, Exactly, ValidAt, ForeignAt, NothingThere, Unclear, foreign_only, equal-times, TiedAt, tied_with}
use Rattle.board.specs.Table.{DueTransfer, MountWorn, mount_lines, Names, names_foreign, names_equal}
use Rattle.board.specs.Promise.{Machine, Current}
use Rattle.board.proofs.Images.{Sized, sized_of}
use Rattle.board.proofs.Invariant.{Quiet}
use Rattle.board.proofs.Current.{block-long}
use Rattle.board.proofs.Outcomes.{mount-length}
use Rattle.board.proofs.Found.{store}
use Rattle.board.proofs.Erasing.{same-valid}
use Rattle.board.proofs.Deciding as deciding
use Rattle.board.proofs.Deciding.{Taken, SameTimes, Decided, Outcome, InTime, worn_out, begins, foreign_block, none-valid, at_store}
use Rattle.board.proofs.Deciding.{mount_decides, mount-outcome, mount-accepted, taken-holds, taken_newest}
use Rattle.board.proofs.Upkeep.{moves-due}
use Rattle.board.proofs.Tabling.{allowed-is, is-allowed, allowed-not}
use Rattle.journal.specs.Faults.{FaultIn}
use Rattle.wire.specs.declared.Answer.{Answer}
use Rattle.board.proofs.Answering.{SameNamed, Both, same_lines}

begun : (p : Phase) → Accepted (answer_in p)
begun Unmounted = tt
begun Idle = tt
begun (Busy g) = tt

answer : {n : Refusal} (N : ℕ) (img : List ℕ) → mount_on N img ≡ refuse n img unmounted [] → number_of (mount_on N img).answer ≡ some (refusal_number n)
answer N img e = ap (λ (o : Out). number_of o.answer) e

-- the table's lines but for 4
abbrev Left : ℕ → List ℕ → Type 0
Left N img = Exactly (line 2 (NothingThere N img) ∷ line 3 (Unclear N img) ∷ line 6 (MountWorn N img) ∷ []) (mount_on N img).answer

module _ {N : ℕ} (img : List ℕ) (by : Bytes img) (ok : allowed N (length img) ≡ true) where
  z : Sized N (size_of N img) img
  z = sized_of N img ok

  long : (k : ℕ) → k < N → header_len ≤ length (block (size_of N img) k img)
  long k h = omega (arith, block-long k z h, z.low)

  -- ---- a block's state in words, and back

  pub valid_at : {k : ℕ} {w : Journal} → k < N → block_state (block (size_of N img) k img) ≡ valid w → ValidAt N img k w
  valid_at {k} {w} h e = (h, (states-exact.is-valid (block (size_of N img) k img) w (bytes-block (size_of N img) k img by) (long k h)).0 e)

  pub at_valid : {k : ℕ} {w : Journal} → ValidAt N img k w → block_state (block (size_of N img) k img) ≡ valid w
  at_valid {k} {w} (h, v) = (states-exact.is-valid (block (size_of N img) k img) w (bytes-block (size_of N img) k img by) (long k h)).1 v

  foreign_at : {k : ℕ} {e : Fault} → k < N → block_state (block (size_of N img) k img) ≡ foreign e → ForeignAt N img k
  foreign_at {k} {e} h p = (h, (states-exact.is-foreign (block (size_of N img) k img) (bytes-block (size_of N img) k img by) (long k h)).0 (e, p))

  at_foreign : {k : ℕ} → ForeignAt N img k → (e : Fault) × (block_state (block (size_of N img) k img) ≡ foreign e)
  at_foreign {k} (h, v) = (states-exact.is-foreign (block (size_of N img) k img) (bytes-block (size_of N img) k img by) (long k h)).1 v

  -- two blocks of one time in words, and back
  tied_same : {j : ℕ} (k : ℕ) → SameTimes N (size_of N img) img j k → TiedAt N img j
  tied_same k p =
      tied_with k p.journal' p.journal (λ e. p.apart (sym e)) (valid_at p.there' p.is_valid') (valid_at p.there p.is-valid)
      (sym p.same)

  same_tied : {j : ℕ} → TiedAt N img j → (k : ℕ) × SameTimes N (size_of N img) img j k
  same_tied {j} (tied_with k x y n a b t) = (
    k,
    record {
      journal = y;
      journal' = x;
      same = sym t;
      there = b.0;
      there' = a.0;
      apart = λ e. n (sym e);
      is-valid = at_valid b;
      is_valid' = at_valid a;
    },
  )

  module _ (x : Store) (y : Taken N (size_of N img) img x) where
    at_number : {k : ℕ} {w : Journal} → ValidAt N img k w → k ≡ x.number → w ≡ x.journal
    at_number a e = same-valid (sym (at_valid a) ∙ ap (λ (n : ℕ). block_state (block (size_of N img) n img)) e ∙ y.is-valid)

    clear : Unclear N img → ⊥
    clear (foreign_only k f n) = n x.number x.journal (valid_at y.there y.is-valid)
    clear (equal-times k w) = let p = same_tied w in y.untied k p.0 p.1

    not_worn : InTime (size_of N img) x → MountWorn N img → ⊥
    not_worn t w =
        on_test (eqb w.number x.number)
        (λ p.
        let e : w.journal ≡ x.journal = at_number w.is-valid (eqb-true w.number x.number p) in
        let d : DueTransfer (size_of N img) x.journal = subst (DueTransfer (size_of N img)) e w.due in
        omega (arith, ap (λ (i : Journal). i.time) e, w.last-time, t (moves-due (size_of N img) x.journal d)))
        (λ p. omega (
          arith,
          (taken-holds x z by y).layout.time_hi,
          w.last-time,
          taken_newest z y w.number w.journal w.is-valid.0 (eqb-false w.number x.number p) (at_valid w.is-valid),
        ))

    taken_lines : Outcome N img x → Left N img
    taken_lines o = inr ((λ n. n.none-valid x.number x.journal (valid_at y.there y.is-valid)), inr (clear, last o))
      where
        last : Outcome N img x → Exactly (line 6 (MountWorn N img) ∷ []) (mount_on N img).answer
        last (worn_out w e) =
            inl (
              record {
                number = w.number;
                journal = w.journal;
                is-valid = valid_at w.there w.is-valid;
                last-time = w.last-time;
                due = w.due;
              },
              answer N img e,
            )
        last (begins t e) =
            let g : Record = enter_wipe (mount_job N img x (wipe_list x.number (all_found N img)) (upkeep (size_of N img) x)) in
            inr (not_worn t, subst (λ (o : Out). Accepted o.answer) (sym e) (begun g.phase))

  current_of : (x : Store) → Taken N (size_of N img) img x → Current N img x
  current_of x y =
      record { is-valid = valid_at y.there y.is-valid; newest = λ k w n v. taken_newest z y k w v.0 n (at_valid v) }

  decided_lines : Decided N (size_of N img) img → Left N img
  decided_lines (foreign_block j h e p o b r) =
      inr (
        (λ n. n.none_foreign j (foreign_at h p)),
        inl (foreign_only j (foreign_at h p) (λ k w a. o k w a.0 (at_valid a)), answer N img r),
      )
  decided_lines (deciding.equal-times j k p o r) =
      inr (
        (λ n. n.none-valid j p.journal (valid_at p.there p.is-valid)),
        inl (equal-times j (tied_same k p), answer N img r),
      )
  decided_lines (none-valid n r) =
      inl (
        record {
          none-valid = λ k w a. subst Quiet (at_valid a) (n k a.0);
          none_foreign = λ k f. let p = at_foreign f in subst Quiet p.1 (n k f.0);
        },
        answer N img r,
      )
  decided_lines (at_store x y) = taken_lines x y (mount-outcome x z y (taken-holds x z by y))

-- ---- the current block

pub record Mountable (N : ℕ) (img : List ℕ) : Type 0 where
  pub store : Store
  pub current : Current N img store

pub accepted-takes : {N : ℕ} (img : List ℕ) → Bytes img → Accepted (mount_on N img).answer → Mountable N img
accepted-takes {N} img by a =
    on_test (allowed N (length img))
    (λ ok. let y : deciding.Begins N (size_of N img) img = mount-accepted (sized_of N img ok) by a in
    record { store = y.store; current = current_of img by ok y.store y.taken })
    (λ no. absurd (subst (λ (o : Out). Accepted o.answer) (mount-length N img no) a))

pub mounts-current : {N : ℕ} {m : Machine} (img : List ℕ) → Bytes img → allowed N (length img) ≡ true → (o : Out) → (y : Mounts N m img o)
    → Current N img y.store
mounts-current img by ok o y =
    record {
      is-valid = valid_at img by ok y.there y.is-valid;
      newest = λ k w n v. y.newest k w v.0 n (at_valid img by ok v);
    }

-- the image settles which block is current
pub same_store : {N : ℕ} (img : List ℕ) → Bytes img → allowed N (length img) ≡ true → (x y : Store) → Current N img x → Current N img y → x ≡ y
same_store {N} img by ok x y a b = on_test (eqb x.number y.number) (λ t. alike (eqb-true x.number y.number t)) apart
  where
    apart : eqb x.number y.number ≡ false → x ≡ y
    apart t =
        let d : x.number ≡ y.number → ⊥ = eqb-false x.number y.number t in
        absurd (omega (
          arith,
          b.newest x.number x.journal d a.is-valid,
          a.newest y.number y.journal (λ e. d (sym e)) b.is-valid,
        ))

    alike : x.number ≡ y.number → x ≡ y
    alike e =
        let s : x.journal ≡ y.journal =
        same-valid (sym (at_valid img by ok a.is-valid) ∙ ap (λ (k : ℕ). block_state (block (size_of N img) k img)) e ∙ at_valid img by ok b.is-valid) in
        ap₂ store e s

pub mount_lines_lem : {N : ℕ} (img : List ℕ) → Bytes img → Exactly (mount_lines N img) (mount_on N img).answer
mount_lines_lem {N} img by =
    on_test (allowed N (length img))
    (λ ok. inr ((λ n. n (allowed-is N (length img) ok)), decided_lines img by ok (mount_decides (sized_of N img ok))))
    (λ no. inl ((λ y. clash (allowed N (length img)) (is-allowed N (length img) y) no), ap (λ (o : Out). number_of o.answer) (mount-length N img no)))

-- ---- what 3 names

fault-at : {N : ℕ} (img : List ℕ) → Bytes img → allowed N (length img) ≡ true → (k : ℕ) (e : Fault) → k < N
    → block_state (block (size_of N img) k img) ≡ foreign e → ForeignAt N img k × FaultIn (block (size_of N img) k img) e
fault-at {N} img by ok k e h p =
    let w = (states-exact.is_foreign_at (block (size_of N img) k img) e (bytes-block (size_of N img) k img by) (long img by ok k h)).0 p in ((h, w.0), w.1)

pub mount-names : {N : ℕ} (img : List ℕ) → Bytes img → (k : ℕ) (e : Fault) → (mount_on N img).answer ≡ Refused (refusal.Foreign k e) → Names N img k e
mount-names {N} img by k e q =
    on_test (allowed N (length img))
    (λ ok. go ok (mount_decides (sized_of N img ok)))
    (λ no. let r : Refused refusal.ImageLength ≡ Refused (refusal.Foreign k e) = sym (ap (λ (o : Out). o.answer) (mount-length N img no)) ∙ q in
    let w : ◌≡◌ {A = ℕ} 0 1 = cc in absurd (omega arith))
  where
    told : {n : Refusal} → mount_on N img ≡ refuse n img unmounted [] → Refused n ≡ Refused (refusal.Foreign k e)
    told r = sym (ap (λ (o : Out). o.answer) r) ∙ q

    go : allowed N (length img) ≡ true → Decided N (size_of N img) img → Names N img k e
    go ok (foreign_block j h f p o b r) =
        let t = told r in
        let jk : j ≡ k = cc in
        let fe : f ≡ e = cc in
        let w = fault-at img by ok j f h p in
        subst₂ (Names N img) jk fe
        (names_foreign (λ i w a. o i w a.0 (at_valid img by ok a)) w.0 w.1
        (λ i l y. let z = at_foreign img by ok y in subst Quiet z.1 (b i l)))
    go ok (deciding.equal-times j i p o r) =
        let w = told r in
        let jk : j ≡ k = cc in
        let fe : fault field.Created 4 ≡ e = cc in
        subst₂ (Names N img) jk fe (names_equal (tied_same img by ok i p) refl (λ m l y. let z = same_tied img by ok y in o m z.0 l z.1))
    go ok (none-valid n r) = let t = told r in let w : ◌≡◌ {A = ℕ} 0 1 = cc in absurd (omega arith)
    go ok (at_store x y) = out (mount-outcome x (sized_of N img ok) y (taken-holds x (sized_of N img ok) by y))
      where
        out : Outcome N img x → Names N img k e
        out (worn_out w r) = let t = told r in let w : ◌≡◌ {A = ℕ} 0 1 = cc in absurd (omega arith)
        out (begins t r) =
            let g : Record = enter_wipe (mount_job N img x (wipe_list x.number (all_found N img)) (upkeep (size_of N img) x)) in
            absurd (subst Accepted q (subst (λ (o : Out). Accepted o.answer) (sym r) (begun g.phase)))

lowest-one : {P : ℕ → Type 0} (k j : ℕ) → P k → P j → ((i : ℕ) → i < k → P i → ⊥) → ((i : ℕ) → i < j → P i → ⊥) → k ≡ j
lowest-one k j a b m n =
    on-order k j (λ _ l. absurd (n k l a)) (λ _ e. e) (λ _ l. absurd (m j l b))

names-one : {N : ℕ} (img : List ℕ) → Bytes img → allowed N (length img) ≡ true → (k j : ℕ) (e f : Fault) → Names N img k e → Names N img j f → (k ≡ j) × (e ≡ f)
names-one {N} img by ok k j e f (names_foreign n a b c) (names_foreign n' a' b' c') =
    let same : k ≡ j = lowest-one {P = ForeignAt N img} k j a a' c c' in
    let p = at_fault k e a b in
    let q = at_fault j f a' b' in
    let r : foreign e ≡ foreign f = sym p ∙ ap (λ (n : ℕ). block_state (block (size_of N img) n img)) same ∙ q in
    (same, cc)
  where
    at_fault : (n : ℕ) (g : Fault) → ForeignAt N img n → FaultIn (block (size_of N img) n img) g → block_state (block (size_of N img) n img) ≡ foreign g
    at_fault n g (h, y) z = (states-exact.is_foreign_at (block (size_of N img) n img) g (bytes-block (size_of N img) n img by) (long img by ok n h)).1 (y, z)
names-one img by ok k j e f (names_foreign n a b c) (names_equal (tied_with i x w d y z t) q m) = absurd (n i x y)
names-one img by ok k j e f (names_equal (tied_with i x w d y z t) q m) (names_foreign n a b c) = absurd (n i x y)
names-one {N} img by ok k j e f (names_equal x q m) (names_equal x' q' m') = (lowest-one {P = TiedAt N img} k j x x' m m', q ∙ sym q')

-- what a mount may answer: by the table, and naming what 3 names
abbrev pub MountTold : ℕ → List ℕ → Answer → Type 0
MountTold N img a = Exactly (mount_lines N img) a × ((k : ℕ) (e : Fault) → a ≡ Refused (refusal.Foreign k e) → Names N img k e)

pub mount-told : {N : ℕ} (img : List ℕ) → Bytes img → MountTold N img (mount_on N img).answer
mount-told img by = (mount_lines_lem img by, mount-names img by)

same-named : {N : ℕ} (img : List ℕ) → Bytes img → (a b : Answer) → MountTold N img a → MountTold N img b → SameNamed a b
same-named img by a b (inl (p, x), n) (y, m) k j e f s t =
    let w : ◌≡◌ {A = Option ℕ} (some 3) (some 4) = sym (ap number_of s) ∙ x in let z : ◌≡◌ {A = ℕ} 3 4 = cc in absurd (omega arith)
same-named {N} img by a b (inr (p, x), n) (y, m) k j e f s t = names-one img by (allowed-not N (length img) p) k j e f (n k e s) (m j f t)

pub same-mounts : {N : ℕ} (img : List ℕ) → Bytes img → (a b : Answer) → MountTold N img a → MountTold N img b → Both a b
same-mounts {N} img by a b x y = same_lines (mount_lines N img) a b (same-named img by a b x y) x.0 y.0
