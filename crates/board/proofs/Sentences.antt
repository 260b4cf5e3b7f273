-- The frame that a request appends, the steps of each job and a read's stretch are as document 01 words them.
use mathlib.Core.Path.{◌≡◌, refl, sym, ap, subst, ◌∙◌, ap₂}
use mathlib.Core.List.{List, [], ◌∷◌, ◌++◌, map, append_assoc, map-append}
use mathlib.Core.Option.{some}
use mathlib.Core.Bool.{Bool, true, cond}
use Prim.Native.Nat.{ℕ, zero, suc, ◌+◌, ◌-◌, ◌*◌, ◌/◌, ◌%◌, ◌≤◌, ◌<◌}
use native.Mathlib.Omega.{arith}
use lib.ListN.{length, get_or, drop, length-append, length-drop, length-map, get_or-append}
use lib.Seq.{get_or_at}
use borrow.Author.Tests.{ltb-true, lt-ltb, le-ltb}
use Rattle.frame.specs.declared.Edition.{Edition}
use Rattle.frame.specs.declared.Edition.TheVariants as edition
use Rattle.frame.specs.declared.Host.{Host}
use Rattle.flash.specs.Bytes.{Bytes}
use Rattle.flash.specs.Flash.{block_numbers, size_in, Step, program, erase, block, size_of, Write, write, write_step, writes}
use Rattle.flash.proofs.Sizes.{size_is}
use Rattle.flash.proofs.Programming.{length-writes, writes_at}
use Rattle.frame.specs.Frame.{put, delete, change, commit, abort, encode, encode_all, frame_len, Frame}
use Rattle.frame.specs.ByKind.{with_crc}
use Rattle.frame.proofs.ByKind as kinds
use Rattle.frame.proofs.Encode.{length-encode, length-all}
use Rattle.journal.specs.Replay.{State, frames_of, is_open_of, settled_only}
use Rattle.journal.specs.Block.{Journal, header_len, last_time, seal_writes, build, open_writes}
use Rattle.journal.specs.Laws.{by_edition, pending_after, PlacesAre}
use Rattle.journal.proofs.Lists.{open_none}
use Rattle.journal.proofs.Room.{frames-total, claimed-settled}
use Rattle.journal.proofs.ReplayLaws.{order_laws, used-exact}
use Rattle.journal.proofs.Sources.{place-exact}
use Rattle.journal.specs.Index.{places_of}
use Rattle.board.proofs.Formatting.{none-placed}
use Rattle.board.specs.Mount.{next_block, numbers_but, format_order, replay_of, claimed_of}
use Rattle.board.specs.Record.{allowed, idle, landing}
use Rattle.board.specs.Queue.{stretch_of, counted}
use Rattle.board.specs.Table.{end_task, convert_task, appends}
use Rattle.board.specs.Plan.{on_block, transfer_plan, format_work, append_plan, Work, moved_work, stayed_work}
use Rattle.board.specs.CutFormat.{Beside}
use Rattle.board.specs.Sentences.{FrameExact, NeedsExact, Programs, NextOf, following, round, TransferExact, AppendExact, StretchExact}
use Rattle.board.specs.Sentences.{first_header, ByNumber, LastIs, NewestAt, FormatExact, task_bytes, ConvertExact, PlacesExact}
use Rattle.board.proofs.Numbers.{next_up, next-round, length_numbers, number_at, length_but, but_below, but_above}
use Rattle.board.proofs.Lengths.{length_transfer, length-format}
use Rattle.board.proofs.Order.{beside-of, StateOf, Newest, order-last, order-rises}
use Rattle.board.proofs.Tabling.{is-allowed}
use Rattle.board.proofs.TablingMounts.{valid_at, at_valid}

-- ---- frames

-- in an edition
in_edition : (x : Journal) (ed : Edition) (f : Frame) (bs : List ℕ) → x.edition ≡ ed → encode ed f ≡ bs → task_bytes x (appends f) ≡ some bs
in_edition x ed f bs e q = ap (λ (d : Edition). some (encode d f)) e ∙ ap some q

-- a byte's number
low_byte : (n : ℕ) → n < 256 → (n % 256 ≡ n) × (n / 256 ≡ 0)
low_byte n h = (omega arith, omega arith)

put_front : (n i : ℕ) (P : ℕ → ℕ → ℕ → ℕ → List ℕ) → n < 256 → i < 256 → P (n % 256) (n / 256) (i % 256) (i / 256) ≡ P n 0 i 0
put_front n i P h k =
    let a = low_byte n h in
    let b = low_byte i k in
    ap₂ (λ (p q : ℕ). P p q (i % 256) (i / 256)) a.0 a.1 ∙ ap₂ (λ (p q : ℕ). P n 0 p q) b.0 b.1

-- a commit or an abort that has something to end
ended : (x : Journal) (ed : Edition) (h : Host) (f : Frame) (bs : List ℕ) → (pending_after h x.frames ≡ [] → ⊥) → x.edition ≡ ed → encode ed f ≡ bs
    → task_bytes x (end_task (is_open_of h (replay_of x).pending) f) ≡ some bs
ended x ed h f bs n e q =
    ap (λ (b : Bool). task_bytes x (end_task b f)) ((order_laws.is_open h (replay_of x).pending).1 n) ∙ in_edition x ed f bs e q

pub frame-exact : FrameExact
frame-exact =
    record {
      of_put = λ h m x i hh b y e.
          in_edition x edition.First (change h (put i (drop 6 m))) _ e
          ((kinds.frame-exact).put_bytes h i (drop 6 m)
          ∙ put_front (8 + length (drop 6 m)) i.0 (λ p q c d. p ∷ q ∷ 1 ∷ 0 ∷ h.0 ∷ c ∷ d ∷ (drop 6 m ++ (0xFE ∷ [])))
          (omega (arith, length-drop 6 m, y.2)) (omega (arith, y.4)));
      of_delete = λ h m x i hh y e.
          in_edition x edition.First (change h (delete i)) _ e
          ((kinds.frame-exact).delete_bytes h i ∙ put_front 8 i.0 (λ p q c d. p ∷ q ∷ 2 ∷ 0 ∷ h.0 ∷ c ∷ d ∷ 0xFE ∷ []) (omega arith) (omega (arith, y.3)));
      of_commit = λ h m x n e. ended x edition.First h (commit h) _ n e ((kinds.frame-exact).commit_bytes h);
      commit_nothing = λ h m x e. ap (λ (b : Bool). end_task b (commit h)) (open_none h (replay_of x).pending e);
      of_abort = λ h m x n e. ended x edition.First h (abort h) _ n e ((kinds.frame-exact).abort_bytes h);
      abort_nothing = λ h m x e. ap (λ (b : Bool). end_task b (abort h)) (open_none h (replay_of x).pending e);
      of_read = λ h m x i. refl;
      of_log = λ h m x p. refl;
      convert_first = λ h m x e. ap convert_task e;
      convert_second = λ h m x e. ap convert_task e;
      put_second = λ h m x i hh b y e.
          in_edition x edition.Second (change h (put i (drop 6 m))) _ e
          ((kinds.frame-exact).put_second h i (drop 6 m)
          ∙ put_front (12 + length (drop 6 m)) i.0 (λ p q c d. with_crc (p ∷ q ∷ 1 ∷ 0 ∷ h.0 ∷ c ∷ d ∷ drop 6 m))
          (omega (arith, length-drop 6 m, y.2)) (omega (arith, y.4)));
      delete_second = λ h m x i hh y e.
          in_edition x edition.Second (change h (delete i)) _ e
          ((kinds.frame-exact).delete_second h i
          ∙ put_front 12 i.0 (λ p q c d. with_crc (p ∷ q ∷ 2 ∷ 0 ∷ h.0 ∷ c ∷ d ∷ [])) (omega arith) (omega (arith, y.3)));
      commit_second = λ h m x n e. ended x edition.Second h (commit h) _ n e ((kinds.frame-exact).commit_second h);
      abort_second = λ h m x n e. ended x edition.Second h (abort h) _ n e ((kinds.frame-exact).abort_second h);
    }

pub needs-exact : NeedsExact
unfolding NeedsExact
needs-exact N img s r x f h e =
    let l : length (encode x.edition f) ≡ frame_len x.edition f = length-encode x.edition f in
    let z : size_of N img ≡ s = ap (size_in N) e ∙ size_is N s h in (
      λ t. omega (arith, ltb-true (size_of N img) (r.rest.end + frame_len x.edition f) t),
      λ h. lt-ltb (size_of N img) (r.rest.end + frame_len x.edition f) (omega arith),
    )

-- ---- steps

mapped_at : (k : ℕ) (ws : List Write) (n : ℕ) (d : Step) (e : Write) → n < length ws → get_or (on_block k ws) n d ≡ write_step k (get_or ws n e)
mapped_at k [] n d e h = absurd (omega arith)
mapped_at k (w ∷ ws) zero d e h = refl
mapped_at k (w ∷ ws) (suc n) d e h = mapped_at k ws n d e (omega arith)

programs : (k at : ℕ) (bs : List ℕ) → Programs k at bs (on_block k (writes at bs))
programs k at bs =
    record {
      each = length-map (writes at bs) (write_step k) ∙ length-writes at bs;
      in_order = λ n d h.
          mapped_at k (writes at bs) n d (write 0 0) (omega (arith, length-writes at bs)) ∙ ap (write_step k) (writes_at at bs n (write 0 0) h);
    }

next_of : {N k j : ℕ} → NextOf N k j → next_block N k ≡ j
next_of {N} {k} (following h) = next_up N k h
next_of {N} {k} (round e) = next-round N k (omega arith)

-- the four bytes of the inverse, each the inverse of a byte
inverse : (t : ℕ) → t ≤ 4294967295
    → ((last_time - t) % 256 ≡ 255 - t % 256) × ((last_time - t) / 256 % 256 ≡ 255 - t / 256 % 256)
    × ((last_time - t) / 65536 % 256 ≡ 255 - t / 65536 % 256) × ((last_time - t) / 16777216 ≡ 255 - t / 16777216)
inverse t h = (omega arith, omega arith, omega arith, omega arith)

-- the first five steps, then others
abbrev opened : Edition → ℕ → List Step → List Step
opened ed j xs = program j 8 0xFE ∷ program j 0 16 ∷ program j 1 0 ∷ program j 2 (by_edition ed 0x01 0x02) ∷ program j 3 0x4A ∷ xs

-- by the edition's number
open_is : (ed : Edition) (j : ℕ) (ws : List Write) (xs : List Step) → on_block j (open_writes ed ++ ws) ++ xs ≡ opened ed j (on_block j ws ++ xs)
unfolding writes
open_is edition.First j ws xs = refl
open_is edition.Second j ws xs = refl

transfer_is : (ed : Edition) (N k j : ℕ) (x : Journal) (st : State) → next_block N k ≡ j
    → transfer_plan ed N k x st
    ≡ opened ed j (on_block j (writes header_len (encode_all ed (frames_of st))) ++ (on_block j (seal_writes (suc x.time)) ++ (erase k ∷ [])))
transfer_is ed N k j x st e =
    let ws : List Write = writes header_len (encode_all ed (frames_of st)) in
    ap (λ (n : ℕ). on_block n (build ed (suc x.time) (frames_of st)) ++ (erase k ∷ [])) e
    ∙ open_is ed j (ws ++ seal_writes (suc x.time)) (erase k ∷ [])
    ∙ ap (λ (xs : List Step). opened ed j (xs ++ (erase k ∷ []))) (map-append (write_step j) ws (seal_writes (suc x.time)))
    ∙ ap (opened ed j) (append_assoc (on_block j ws) (on_block j (seal_writes (suc x.time))) (erase k ∷ []))

pub transfer_exact : TransferExact
unfolding TransferExact writes
transfer_exact ed N k j x st e h =
    let bs : List ℕ = encode_all ed (frames_of st) in
    let v = inverse (suc x.time) h in
    record {
      copied = on_block j (writes header_len bs);
      steps = transfer_is ed N k j x st (next_of e) ∙ rw (v.0, v.1, v.2, v.3) refl;
      frames = programs j header_len bs;
      count = length_transfer ed (next_block N k) k x st;
    }

-- ---- format

format_steps : (N : ℕ) (img order : List ℕ) → format_order N img ≡ order → (format_work N img).steps ≡ map erase order ++ first_header
unfolding writes encode_all
format_steps N img order e = ap (λ (l : List ℕ). map erase l ++ first_header) e

numbers_rise : (N : ℕ) → ByNumber N (block_numbers N)
numbers_rise N = record { all = length_numbers 0 N; each = λ i h. number_at 0 N i h ∙ omega arith }

but_last : (N k : ℕ) → k < N → LastIs k N (numbers_but k (block_numbers N) ++ (k ∷ []))
but_last N k h =
    let ks : List ℕ = numbers_but k (block_numbers N) in
    let front : (i : ℕ) → suc i < N → get_or (ks ++ (k ∷ [])) i 0 ≡ get_or ks i 0 = λ i l. get_or-append ks (k ∷ []) 0 i (omega (arith, length_but N k h)) in
    record {
      all = length-append ks (k ∷ []) ∙ omega (arith, length_but N k h);
      below = λ i l. front i (omega arith) ∙ but_below N k h i l;
      above = λ i l g. front i g ∙ but_above N k h i l g;
      last = get_or_at ks k [] 0 (N - 1) (length_but N k h);
    }

module _ (N : ℕ) (img : List ℕ) (by : Bytes img) (ok : allowed N (length img) ≡ true) where
  newest-in : {k : ℕ} → NewestAt N img k → Newest N img k
  newest-in (x, v, o) =
      record {
        journal = x;
        there = v.0;
        is-valid = at_valid img by ok v;
        others = λ j h d. beside-of (StateOf N img j) (λ y q. o j y d (valid_at img by ok h q));
      }

  newest_at : {k : ℕ} → Newest N img k → NewestAt N img k
  newest_at n = (
    n.journal,
    valid_at img by ok n.there n.is-valid,
    λ j y a w. subst (Beside n.journal.time) (at_valid img by ok w) (n.others j w.0 a),
  )

pub format-exact : FormatExact
format-exact =
    record {
      current = λ N img k by al n.
          let y : Newest N img k = newest-in N img by (is-allowed N (length img) al) n in
          let order : List ℕ = numbers_but k (block_numbers N) ++ (k ∷ []) in
          record { order = order; steps = format_steps N img order (order-last y); ordered = but_last N k y.there };
      no_current = λ N img by al f.
          record {
            order = block_numbers N;
            steps = format_steps N img (block_numbers N) (order-rises (λ k n. f k (newest_at N img by (is-allowed N (length img) al) n)));
            ordered = numbers_rise N;
          };
      count = length-format;
    }

pub append-exact : AppendExact
append-exact =
    record {
      stays = λ N img r x f h.
          rw (le-ltb (size_of N img) (r.rest.end + frame_len x.edition f) (omega (arith, length-encode x.edition f)))
          (programs r.rest.block r.rest.end (encode x.edition f));
      moves = λ N j img r x f e h.
          let st : State = replay_of x in
          let k : ℕ = next_block N r.rest.block in
          let o : ℕ = 16 + length (encode_all x.edition (frames_of st)) in
          let xs : List Step = append_plan x.edition k (claimed_of x) f in
          let c : claimed_of x ≡ o = omega (arith, frames-total x.edition st, length-all x.edition (frames_of st)) in
          let p : Programs k o (encode x.edition f) xs =
          subst (λ (n : ℕ). Programs k n (encode x.edition f) xs) c (programs k (claimed_of x) (encode x.edition f)) in (
            xs,
            rw (lt-ltb (size_of N img) (r.rest.end + frame_len x.edition f) (omega (arith, length-encode x.edition f))) refl,
            subst (λ (n : ℕ). Programs n o (encode x.edition f) xs) (next_of e) p,
          );
    }

-- ---- convert

pub convert-exact : ConvertExact
unfolding TransferExact
convert-exact =
    record {
      steps = λ N j img r x e h. transfer_exact edition.Second N r.rest.block j x (settled_only (replay_of x)) e h;
      work = λ N img r x. refl;
      count = λ N img r x.
          length_transfer edition.Second (next_block N r.rest.block) r.rest.block x (settled_only (replay_of x))
          ∙ claimed-settled edition.Second (replay_of x) ∙ used-exact.used_is edition.Second (replay_of x);
      places = λ N img r x. place-exact.places_are edition.Second (frames_of (settled_only (replay_of x)));
      last = λ N j img r x e. ap₂ (λ (k n : ℕ). idle (places_of edition.Second (frames_of (settled_only (replay_of x)))) (landing r.rest 2 k n)) (next_of e) (used-exact.used_is edition.Second (replay_of x));
    }

-- ---- the places

pub places-exact : PlacesExact
places-exact =
    record {
      stays = λ N img r x f l. subst (λ (w : Work). PlacesAre x.edition w.last.places (x.frames ++ (f ∷ [])))
          (sym (ap (λ (b : Bool). cond b (moved_work (next_block N r.rest.block) (counted r.rest x f) x f) (stayed_work (counted r.rest x f) x f))
          (le-ltb (size_of N img) (r.rest.end + frame_len x.edition f) (omega (arith, l, length-encode x.edition f)))))
          (place-exact.places_are x.edition (x.frames ++ (f ∷ [])));
      moves = λ N img r x f l. subst (λ (w : Work). PlacesAre x.edition w.last.places (frames_of (replay_of x) ++ (f ∷ [])))
          (sym (ap (λ (b : Bool). cond b (moved_work (next_block N r.rest.block) (counted r.rest x f) x f) (stayed_work (counted r.rest x f) x f))
          (lt-ltb (size_of N img) (r.rest.end + frame_len x.edition f) (omega (arith, l, length-encode x.edition f)))))
          (place-exact.places_are x.edition (frames_of (replay_of x) ++ (f ∷ [])));
      formatted = λ N img. subst (λ (ps : List ℕ). PlacesAre edition.First ps []) none-placed (place-exact.places_are edition.First []);
    }

-- ---- a read's stretch

pub stretch-exact : StretchExact
unfolding StretchExact
stretch-exact N img r x i v y h s =
    let p = place-exact.found (block (size_of N img) r.rest.block img) x i v y h s in
    (p.0, ap (stretch_of (r.rest.block * size_of N img)) p.1, p.2)
