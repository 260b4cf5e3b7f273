-- A store that is wrong only off the bench, and answers formats as it should, is right in every row.
use mathlib.Core.Path.{◌≡◌, refl, ap, ap₂, ◌∙◌}
use mathlib.Core.List.{List, [], ◌∷◌}
use mathlib.Core.Logic.{inl, inr}
use mathlib.Core.Bool.{Bool, true, cond}
use Prim.Native.Nat.{ℕ, zero, suc}
use lib.ListN.{length, replicate, drop, length-replicate}
use Rattle.flash.specs.Flash.{size_of}
use Rattle.flash.proofs.Cases.{on_test}
use Rattle.flash.proofs.Image.{length-apply}
use Rattle.frame.specs.declared.Edition.TheVariants as edition
use Rattle.frame.specs.Frame.{host_of}
use Rattle.journal.specs.Room.{claimed}
use Rattle.wire.specs.declared.Answer.{Answer}
use Rattle.wire.specs.declared.Answer.TheVariants.{Done, More, Refused}
use Rattle.board.specs.declared.Record.{Record}
use Rattle.board.specs.Record.{unmounted, Out}
use Rattle.board.specs.Exec.{Call, request, step, mount, format, exec}
use Rattle.board.specs.Demand1.{OneStep}
use Rattle.refuted.specs.Rows.{Ran, ran, drive, returned, ask, asked, cut_in, mounted, replayed, timed, part, row_a, row_b, row_c, row_d, row_e}
use Rattle.refuted.specs.Rows.{row_f, row_g, row_h, stores, row_i, row_k, row_ldelete, row_l, row_m, row_along, row_o, commit_message, put_message, delete_message}
use Rattle.refuted.specs.Rows.{format_answer, Rows}
use Rattle.refuted.specs.Wrong.{Wrongly, on_bench, off_bench}
use Rattle.board.proofs.Refusals.{at-most-one-step}
use Rattle.refuted.proofs.Bench.{rows}
use Rattle.refuted.proofs.Refuting.{same-on_bench}

one-step-length : (img after : List ℕ) → OneStep 2 img after → length after ≡ length img
one-step-length img after (inl e) = ap length e
one-step-length img after (inr (x, e)) = ap length e ∙ length-apply (size_of 2 img) x img

exec-length : (img : List ℕ) (r : Record) (c : Call) → length (exec 2 img r c).image ≡ length img
exec-length img r (request h m reply) = ap length (at-most-one-step 2 img r (request h m reply))
exec-length img r step = one-step-length img (exec 2 img r step).image (at-most-one-step 2 img r step)
exec-length img r mount = ap length (at-most-one-step 2 img r mount)
exec-length img r format = ap length (at-most-one-step 2 img r format)

-- a call, and then steps, on an image of the bench
bench_next : (img : List ℕ) (r : Record) (c : Call) → on_bench (length img) ≡ true → on_bench (length (exec 2 img r c).image) ≡ true
bench_next img r c e = ap on_bench (exec-length img r c) ∙ e

record Same (x y : Ran) : Type 0 where
  same : x ≡ y
  long : on_bench (length y.image) ≡ true

same_case : (c : ℕ) (o : Out) (x y : Ran) → Same x y → on_bench (length o.image) ≡ true → (a : Answer)
    → Same (elim a [ Done ↦ ran c o | More ↦ x | Refused r ↦ ran c o ]) (elim a [ Done ↦ ran c o | More ↦ y | Refused r ↦ ran c o ])
same_case c o x y z e Done = record { same = refl; long = e }
same_case c o x y z e More = z
same_case c o x y z e (Refused r) = record { same = refl; long = e }

same-drive : (w : Wrongly) (n c : ℕ) (o : Out) → on_bench (length o.image) ≡ true → Same (drive (off_bench w 2) n c o) (drive (exec 2) n c o)
unfolding drive
same-drive w zero c o e = record { same = refl; long = e }
same-drive w (suc n) c o e =
    let next : Out = exec 2 o.image o.board step in
    let later : Same (drive (off_bench w 2) n (suc c) next) (drive (exec 2) n (suc c) next) =
    same-drive w n (suc c) next (bench_next o.image o.board step e) in
    let first : off_bench w 2 o.image o.board step ≡ next = same-on_bench w 2 o.image o.board step e in
    same_case c o (drive (off_bench w 2) n (suc c) (off_bench w 2 o.image o.board step)) (drive (exec 2) n (suc c) next)
    (record { same = ap (drive (off_bench w 2) n (suc c)) first ∙ later.same; long = later.long }) e o.answer

same-begun : (w : Wrongly) (n : ℕ) (i j : List ℕ) (r q : Record) (c : Call) → i ≡ j → r ≡ q → on_bench (length j) ≡ true
    → Same (drive (off_bench w 2) n 0 (off_bench w 2 i r c)) (drive (exec 2) n 0 (exec 2 j q c))
same-begun w n i j r q c d f e =
    let z : Same (drive (off_bench w 2) n 0 (exec 2 j q c)) (drive (exec 2) n 0 (exec 2 j q c)) =
    same-drive w n 0 (exec 2 j q c) (bench_next j q c e) in
    record {
      same = ap₂ (λ (x : List ℕ) (y : Record). drive (off_bench w 2) n 0 (off_bench w 2 x y c)) d f
          ∙ ap (drive (off_bench w 2) n 0) (same-on_bench w 2 j q c e) ∙ z.same;
      long = z.long;
    }

-- ---- the rows' givens

same-ask : {x y : Ran} (w : Wrongly) → Same x y → (h : ℕ) (m : List ℕ) → ask (off_bench w 2) x h m ≡ ask (exec 2) y h m
unfolding ask
same-ask {x} {y} w z h m =
    ap (λ (q : Ran). off_bench w 2 q.image q.board (request (host_of h) m (replicate 16 0xEE))) z.same
    ∙ same-on_bench w 2 y.image y.board (request (host_of h) m (replicate 16 0xEE)) z.long

same_asked : {x y : Ran} (w : Wrongly) → Same x y → (h : ℕ) (m : List ℕ) → Same (asked (off_bench w 2) x h m) (asked (exec 2) y h m)
unfolding asked ask
same_asked {x} {y} w z h m =
    same-begun w 300 x.image y.image x.board y.board (request (host_of h) m (replicate 16 0xEE))
    (ap (λ (q : Ran). q.image) z.same) (ap (λ (q : Ran). q.board) z.same) z.long

same-mounted : (w : Wrongly) (i j : List ℕ) → i ≡ j → on_bench (length j) ≡ true → Same (mounted (off_bench w 2) i) (mounted (exec 2) j)
unfolding mounted
same-mounted w i j d e = same-begun w 300 i j unmounted unmounted mount d refl e

same-cut : {x y : Ran} (w : Wrongly) → Same x y → (h : ℕ) (m : List ℕ) (n : ℕ)
    → Same (mounted (off_bench w 2) (cut_in (off_bench w 2) x h m n)) (mounted (exec 2) (cut_in (exec 2) y h m n))
unfolding cut_in ask
same-cut {x} {y} w z h m n =
    let c : Call = request (host_of h) m (replicate 16 0xEE) in
    let t : Same (drive (off_bench w 2) n 0 (off_bench w 2 x.image x.board c)) (drive (exec 2) n 0 (exec 2 y.image y.board c)) =
    same-begun w n x.image y.image x.board y.board c (ap (λ (q : Ran). q.image) z.same)
    (ap (λ (q : Ran). q.board) z.same) z.long in
    same-mounted w (cut_in (off_bench w 2) x h m n) (cut_in (exec 2) y h m n) (ap (λ (q : Ran). q.image) t.same) t.long

same-a : (w : Wrongly) → Same (row_a (off_bench w 2)) (row_a (exec 2))
unfolding row_a returned
same-a w = same-begun w 100 returned returned unmounted unmounted format refl refl (ap on_bench (length-replicate {A = ℕ} 512 0x5A))

same-b : (w : Wrongly) → Same (row_b (off_bench w 2)) (row_b (exec 2))
unfolding row_b
same-b w = same_asked w (same-a w) 2 (0x08 ∷ 0x00 ∷ 0x01 ∷ 0x01 ∷ 0x05 ∷ 0x00 ∷ 0x41 ∷ 0x42 ∷ [])

same-c : (w : Wrongly) → Same (row_c (off_bench w 2)) (row_c (exec 2))
unfolding row_c
same-c w = same_asked w (same-b w) 2 commit_message

same-d : (w : Wrongly) → row_d (off_bench w 2) ≡ row_d (exec 2)
unfolding row_d
same-d w = same-ask w (same-c w) 0 (0x06 ∷ 0x00 ∷ 0x05 ∷ 0x01 ∷ 0x05 ∷ 0x00 ∷ [])

same-e : (w : Wrongly) → row_e (off_bench w 2) ≡ row_e (exec 2)
unfolding row_e
same-e w = same-ask w (same-c w) 0 (0x05 ∷ 0x00 ∷ 0x06 ∷ 0x01 ∷ 0x01 ∷ [])

same-f : (w : Wrongly) → row_f (off_bench w 2) ≡ row_f (exec 2)
unfolding row_f
same-f w =
    (same-mounted w (row_b (off_bench w 2)).image (row_b (exec 2)).image (ap (λ (x : Ran). x.image) (same-b w).same) (same-b w).long).same

same-g : (w : Wrongly) → row_g (off_bench w 2) ≡ row_g (exec 2)
unfolding row_g
same-g w = (same-cut w (same-b w) 2 commit_message 5).same

same_h : (w : Wrongly) → row_h (off_bench w 2) ≡ row_h (exec 2)
unfolding row_h
same_h w = (same-cut w (same-b w) 2 commit_message 6).same

same-stores : {x y : Ran} (w : Wrongly) → Same x y → (i n : ℕ) → Same (stores (off_bench w 2) x i n) (stores (exec 2) y i n)
unfolding stores
same-stores w z i n = same_asked w (same_asked w z 0 (put_message i n)) 0 commit_message

same_i : (w : Wrongly) (n : ℕ) → Same (row_i (off_bench w 2) n) (row_i (exec 2) n)
unfolding row_i
same_i w n = same-stores w (same-stores w (same-stores w (same-a w) 1 64) 2 64) 3 n

same-k : (w : Wrongly) (n : ℕ) → Same (row_k (off_bench w 2) n) (row_k (exec 2) n)
unfolding row_k
same-k w n = same_asked w (same_i w n) 0 commit_message

same_l_delete : (w : Wrongly) → Same (row_ldelete (off_bench w 2)) (row_ldelete (exec 2))
unfolding row_ldelete
same_l_delete w = same_asked w (same-k w 64) 0 delete_message

same_l : (w : Wrongly) → row_l (off_bench w 2) ≡ row_l (exec 2)
unfolding row_l
same_l w = (same_asked w (same_asked w (same_l_delete w) 0 commit_message) 0 (put_message 4 0)).same

same-m : (w : Wrongly) (n : ℕ) → row_m (off_bench w 2) n ≡ row_m (exec 2) n
unfolding row_m
same-m w n = (same-cut w (same-k w 64) 0 delete_message n).same

same-a-long : (w : Wrongly) → Same (row_along (off_bench w 2)) (row_along (exec 2))
unfolding row_along
same-a-long w =
    same-begun w 100 (replicate 1024 0x5A) (replicate 1024 0x5A) unmounted unmounted format refl refl
    (ap on_bench (length-replicate {A = ℕ} 1024 0x5A))

same-o : (w : Wrongly) (n : ℕ) → row_o (off_bench w 2) n ≡ row_o (exec 2) n
unfolding row_o
same-o w n = (same_asked w (same-a-long w) 0 (put_message 9 n)).same

-- row p: on longer images too
abbrev pub FormatsAnswered : Wrongly → Type 0
FormatsAnswered w = (img : List ℕ) (r : Record) (o : Out) → (w 2 img r format o).answer ≡ o.answer

same_format : (w : Wrongly) → FormatsAnswered w → (n : ℕ) → format_answer (off_bench w 2) n ≡ format_answer (exec 2) n
unfolding format_answer
same_format w f n =
    let img : List ℕ = replicate n 0x5A in
    let o : Out = exec 2 img unmounted format in
    on_test (on_bench (length img))
    (λ e. ap (λ (b : Bool). (cond b o (w 2 img unmounted format o)).answer) e)
    (λ e. ap (λ (b : Bool). (cond b o (w 2 img unmounted format o)).answer) e ∙ f img unmounted o)

pub rows-kept : (w : Wrongly) → FormatsAnswered w → Rows (off_bench w 2)
rows-kept w f =
    record {
      a_steps = ap (λ (x : Ran). x.steps) (same-a w).same ∙ rows.a_steps;
      a_done = ap (λ (x : Ran). x.board) (same-a w).same ∙ rows.a_done;
      a_half = ap (λ (x : Ran). part 0 16 x.image) (same-a w).same ∙ rows.a_half;
      a_rest = ap (λ (x : Ran). drop 16 x.image) (same-a w).same ∙ rows.a_rest;
      b_steps = ap (λ (x : Ran). x.steps) (same-b w).same ∙ rows.b_steps;
      b_done = ap (λ (x : Ran). x.board) (same-b w).same ∙ rows.b_done;
      b_frame = ap (λ (x : Ran). part 16 10 x.image) (same-b w).same ∙ rows.b_frame;
      c_steps = ap (λ (x : Ran). x.steps) (same-c w).same ∙ rows.c_steps;
      c_frame = ap (λ (x : Ran). part 26 6 x.image) (same-c w).same ∙ rows.c_frame;
      c_end = ap (λ (x : Ran). x.board) (same-c w).same ∙ rows.c_end;
      c_rest = ap (λ (x : Ran). drop 32 x.image) (same-c w).same ∙ rows.c_rest;
      d_answer = ap (λ (x : Out). x.answer) (same-d w) ∙ rows.d_answer;
      d_place = ap (λ (x : Out). x.stretch) (same-d w) ∙ rows.d_place;
      e_answer = ap (λ (x : Out). x.answer) (same-e w) ∙ rows.e_answer;
      e_reply = ap (λ (x : Out). x.reply) (same-e w) ∙ rows.e_reply;
      f_steps = ap (λ (x : Ran). x.steps) (same-f w) ∙ rows.f_steps;
      f_done = ap (λ (x : Ran). x.board) (same-f w) ∙ rows.f_done;
      f_time = ap (λ (x : Ran). timed 0 x) (same-f w) ∙ rows.f_time;
      f_reset = ap (λ (x : Ran). part 26 5 x.image) (same-f w) ∙ rows.f_reset;
      f_rest = ap (λ (x : Ran). drop 31 x.image) (same-f w) ∙ rows.f_rest;
      f_holds = ap (λ (x : Ran). replayed 0 x) (same-f w) ∙ rows.f_holds;
      g_steps = ap (λ (x : Ran). x.steps) (same-g w) ∙ rows.g_steps;
      g_done = ap (λ (x : Ran). x.board) (same-g w) ∙ rows.g_done;
      g_closed = ap (λ (x : Ran). part 26 6 x.image) (same-g w) ∙ rows.g_closed;
      g_reset = ap (λ (x : Ran). part 32 5 x.image) (same-g w) ∙ rows.g_reset;
      g_rest = ap (λ (x : Ran). drop 37 x.image) (same-g w) ∙ rows.g_rest;
      g_holds = ap (λ (x : Ran). replayed 0 x) (same-g w) ∙ rows.g_holds;
      h_steps = ap (λ (x : Ran). x.steps) (same_h w) ∙ rows.h_steps;
      h_done = ap (λ (x : Ran). x.board) (same_h w) ∙ rows.h_done;
      h_holds = ap (λ (x : Ran). replayed 0 x) (same_h w) ∙ rows.h_holds;
      i_accepted = ap (λ (x : Out). x.answer) (same-ask w (same-a w) 0 (put_message 1 64)) ∙ rows.i_accepted;
      i_done = ap (λ (x : Ran). x.board) (same_i w 64).same ∙ rows.i_done;
      i_claimed = ap (λ (x : Ran). claimed edition.First (replayed 0 x)) (same_i w 64).same ∙ rows.i_claimed;
      j = ap (λ (x : Out). x.answer) (same-ask w (same_i w 64) 0 (put_message 4 0)) ∙ rows.j;
      k_commit = ap (λ (x : Ran). x.steps) (same-k w 64).same ∙ rows.k_commit;
      k_refused = ap (λ (x : Out). x.answer) (same-ask w (same-k w 64) 0 (put_message 4 0)) ∙ rows.k_refused;
      k_accepted = ap (λ (x : Out). x.answer) (same-ask w (same-k w 63) 0 (put_message 4 0)) ∙ rows.k_accepted;
      l_transfer = ap (λ (x : Ran). x.steps) (same_l_delete w).same ∙ rows.l_transfer;
      l_pending = ap (λ (x : Ran). x.board) (same_l_delete w).same ∙ rows.l_pending;
      l_steps = ap (λ (x : Ran). x.steps) (same_l w) ∙ rows.l_steps;
      l_done = ap (λ (x : Ran). x.board) (same_l w) ∙ rows.l_done;
      l_old = ap (λ (x : Ran). part 0 256 x.image) (same_l w) ∙ rows.l_old;
      l_header = ap (λ (x : Ran). part 256 16 x.image) (same_l w) ∙ rows.l_header;
      l_settled_1 = ap (λ (x : Ran). part 272 71 x.image) (same_l w) ∙ rows.l_settled_1;
      l_settled_2 = ap (λ (x : Ran). part 343 71 x.image) (same_l w) ∙ rows.l_settled_2;
      l_settled_3 = ap (λ (x : Ran). part 414 71 x.image) (same_l w) ∙ rows.l_settled_3;
      l_delete = ap (λ (x : Ran). part 485 8 x.image) (same_l w) ∙ rows.l_delete;
      l_commit = ap (λ (x : Ran). part 493 6 x.image) (same_l w) ∙ rows.l_commit;
      l_put = ap (λ (x : Ran). part 499 8 x.image) (same_l w) ∙ rows.l_put;
      l_rest = ap (λ (x : Ran). drop 507 x.image) (same_l w) ∙ rows.l_rest;
      m_222_steps = ap (λ (x : Ran). x.steps) (same-m w 222) ∙ rows.m_222_steps;
      m_222_done = ap (λ (x : Ran). x.board) (same-m w 222) ∙ rows.m_222_done;
      m_222_holds = ap (λ (x : Ran). replayed 0 x) (same-m w 222) ∙ rows.m_222_holds;
      m_223_steps = ap (λ (x : Ran). x.steps) (same-m w 223) ∙ rows.m_223_steps;
      m_223_done = ap (λ (x : Ran). x.board) (same-m w 223) ∙ rows.m_223_done;
      m_223_holds = ap (λ (x : Ran). replayed 1 x) (same-m w 223) ∙ rows.m_223_holds;
      n = ap (λ (x : Out). x.answer) (same-ask w (same-a w) 0 (0x05 ∷ 0x00 ∷ 0x03 ∷ 0x01 ∷ [])) ∙ rows.n;
      o_240_steps = ap (λ (x : Ran). x.steps) (same-o w 240) ∙ rows.o_240_steps;
      o_240_done = ap (λ (x : Ran). x.board) (same-o w 240) ∙ rows.o_240_done;
      o_241 = ap (λ (x : Ran). x.answer) (same-o w 241) ∙ rows.o_241;
      o_240_short = ap (λ (x : Out). x.answer) (same-ask w (same-a w) 0 (put_message 9 240)) ∙ rows.o_240_short;
      o_120_short = ap (λ (x : Out). x.answer) (same-ask w (same-a w) 0 (put_message 9 120)) ∙ rows.o_120_short;
      o_121_short = ap (λ (x : Out). x.answer) (same-ask w (same-a w) 0 (put_message 9 121)) ∙ rows.o_121_short;
      p_512 = same_format w f 512 ∙ rows.p_512;
      p_768 = same_format w f 768 ∙ rows.p_768;
      p_65536 = same_format w f 65536 ∙ rows.p_65536;
      p_256 = same_format w f 256 ∙ rows.p_256;
      p_511 = same_format w f 511 ∙ rows.p_511;
      p_over = same_format w f 65792 ∙ rows.p_over;
    }
