-- K12's bounds: of each block, and from any record in no job.
use mathlib.Core.Path.{◌≡◌, refl, sym, ap, subst, ◌∙◌}
use mathlib.Core.List.{List, [], ◌∷◌, ◌++◌}
use mathlib.Core.Bool.{true}
use mathlib.Core.Logic.{inl, inr}
use Prim.Native.Nat.{ℕ, zero, suc, ◌+◌, ◌-◌, ◌*◌, ◌/◌, ◌≤◌, ◌<◌}
use native.Mathlib.Nat.{le_trans, zero-mul, mul-zero, mul-le-mul_left, mul-le-mul_right, mul-suc}
use native.Mathlib.Omega.{arith}
use lib.Dec.{ltb}
use lib.ListN.{length}
use borrow.Author.Tests.{ltb-true, ltb-false}
use Rattle.flash.specs.Bytes.{Bytes}
use Rattle.flash.specs.Flash.{Step, erase, apply, size_of, size_in}
use Rattle.flash.proofs.Cases.{on_test}
use Rattle.flash.proofs.Image.{length-apply, bytes-apply}
use Rattle.journal.specs.Laws.{by_edition}
use Rattle.board.specs.declared.Record.{Record}
use Rattle.board.specs.Record.{allowed, reads_in, Out}
use Rattle.board.specs.Exec.{Machine, Call, request, step, mount, format}
use Rattle.board.specs.Demand1.{Rests, OneStep}
use Rattle.board.specs.Claim.{steps_on}
use Rattle.board.specs.Promise.{Calls}
use Rattle.board.specs.Wear.{Does, erases_of}
use Rattle.board.specs.Endurance.{Tally, no_tally, tally, RequestRun, ClaimedAtMost}
use Rattle.board.specs.Endurance.{erase_count, longest, Endures, Enduring, FirmWear, FirmWearMounted}
use Rattle.board.proofs.Images.{sized_of}
use Rattle.board.proofs.Numbers.{next_up}
use Rattle.board.proofs.Wear.{Level, level-none, level-next, erases-append, count-append}
use Rattle.board.proofs.Tallies.{Bounds, twice, asked_bound}
use Rattle.board.proofs.EnduranceRuns.{Resting, Runs, runs}

-- ---- each block

-- the erases that lead from block 0 to block k
abbrev virtual : ℕ → List Step
virtual zero = []
virtual (suc k) = virtual k ++ (erase k ∷ [])

virtual-level : (N k : ℕ) → k < N → Level N (virtual k) k
virtual-level N zero h = level-none N h
virtual-level N (suc k) h = subst (Level N (virtual (suc k))) (next_up N k h) (level-next (virtual-level N k (omega (arith, h))))

virtual-count : (k : ℕ) → erase_count (virtual k) ≡ k
unfolding erase_count
virtual-count zero = refl
virtual-count (suc k) = omega (arith, count-append (virtual k) (erase k ∷ []), virtual-count k)

-- E erases from block b on, k being the current one after them: a block that was erased e times
spread-few : (N rounds k b E e : ℕ) → b < N → b + E ≡ N * rounds + k → e ≤ rounds → N * (e - 1) ≤ E - 1
spread-few N zero k b E e h t l = let d : e - 1 ≡ 0 = omega (arith, l) in let z : N * (e - 1) ≡ 0 = ap (λ (i : ℕ). N * i) d ∙ mul-zero N in omega arith
spread-few N (suc q) k b E e h t l =
    let d : e - 1 ≤ q = omega (arith, l) in omega (arith, mul-le-mul_left N d, mul-suc N q, t, h)

spread-more : (N rounds k b E e : ℕ) → b < k → b + E ≡ N * rounds + k → e ≤ suc rounds → N * (e - 1) ≤ E - 1
spread-more N q k b E e h t l = let d : e - 1 ≤ q = omega (arith, l) in omega (arith, mul-le-mul_left N d, t, h)

spreads : (N b k : ℕ) (ys : List Step) → b < N → Level N (virtual b ++ ys) k → (j : ℕ) → j < N → N * (erases_of j ys - 1) ≤ erase_count ys - 1
spreads N b k ys h y j l =
    on_test (ltb j b)
    (λ t. let i = (virtual-level N b h).below j (ltb-true j b t) in spread-few N y.rounds k b E e h total (omega (arith, i, both, most)))
    (λ t. on_test (ltb j k)
    (λ u. spread-more N y.rounds k b E e (omega (arith, ltb-false j b t, ltb-true j k u)) total (omega (arith, both, most)))
    (λ u. spread-few N y.rounds k b E e h total (omega (arith, both, y.others j (ltb-false j k u) l))))
  where
    E : ℕ
    E = erase_count ys

    e : ℕ
    e = erases_of j ys

    total : b + E ≡ N * y.rounds + k
    total = omega (arith, y.total, count-append (virtual b) ys, virtual-count b)

    both : erases_of j (virtual b ++ ys) ≡ erases_of j (virtual b) + e
    both = erases-append j (virtual b) ys

    most : erases_of j (virtual b ++ ys) ≤ suc y.rounds
    most = on_test (ltb j k) (λ t. omega (arith, y.below j (ltb-true j k t))) (λ t. omega (arith, y.others j (ltb-false j k t) l))

-- ---- from any record in no job

module _ {N : ℕ} {m : Machine} (p : Calls N m) where
  -- a call keeps what a flash step keeps
  kept : (Q : List ℕ → Type 0) (img : List ℕ) (r : Record) (c : Call) → Q img → ((x : Step) → Q (apply (size_of N img) x img)) → Q (m img r c).image
  kept Q img r (request h msg reply) q f = subst Q (sym (p.one-step img r (request h msg reply))) q
  kept Q img r mount q f = subst Q (sym (p.one-step img r mount)) q
  kept Q img r format q f = subst Q (sym (p.one-step img r format)) q
  kept Q img r step q f = go (p.one-step img r step)
    where
      go : OneStep N img (m img r step).image → Q (m img r step).image
      go (inl e) = subst Q (sym e) q
      go (inr (x, e)) = subst Q (sym e) (f x)

  length_kept : (img : List ℕ) (r : Record) (c : Call) → length (m img r c).image ≡ length img
  length_kept img r c = kept (λ (l : List ℕ). length l ≡ length img) img r c refl (λ x. length-apply (size_of N img) x img)

  bytes_kept : (img : List ℕ) (r : Record) (c : Call) → Bytes img → Bytes (m img r c).image
  bytes_kept img r c b = kept Bytes img r c b (λ x. bytes-apply (size_of N img) x img b)

  size_kept : (img : List ℕ) (r : Record) (c : Call) → size_of N (m img r c).image ≡ size_of N img
  size_kept img r c = ap (size_in N) (length_kept img r c)

  -- C is at most S at each transfer, by refusal 11
  claimed_always : (s : ℕ) (img : List ℕ) (r : Record) (cs : List Call) → size_of N img ≡ s → ClaimedAtMost N m s img r cs
  claimed_always s img r [] e = tt
  claimed_always s img r (request h msg reply ∷ cs) e =
      (λ a x v l. omega (arith, v.room, e), claimed_always s (m img r (request h msg reply)).image (m img r (request h msg reply)).board cs (size_kept img r (request h msg reply) ∙ e))
  claimed_always s img r (step ∷ cs) e = claimed_always s (m img r step).image (m img r step).board cs (size_kept img r step ∙ e)
  claimed_always s img r (mount ∷ cs) e = claimed_always s (m img r mount).image (m img r mount).board cs (size_kept img r mount ∙ e)
  claimed_always s img r (format ∷ cs) e = claimed_always s (m img r format).image (m img r format).board cs (size_kept img r format ∙ e)

  module _ (img : List ℕ) (r : Record) (cs : List Call) (by : Bytes img) (ok : allowed N (length img) ≡ true) (h : Rests r.phase)
      (u : RequestRun m img r cs) where
    abbrev s : ℕ
    s = size_of N img

    abbrev ed : ℕ
    ed = r.rest.edition

    abbrev total : Tally
    total = tally m img r no_tally cs

    some_blocks : 0 < N
    some_blocks = omega (arith, (sized_of N img ok).few)

    -- the record's block, where there is one of that number
    first : (b : ℕ) × (b < N) × (r.rest.block < N → r.rest.block ≡ b)
    first =
        on_test (ltb r.rest.block N) (λ t. (r.rest.block, ltb-true r.rest.block N t, λ _. refl))
        (λ t. (0, some_blocks, λ l. absurd (omega (arith, l, ltb-false r.rest.block N t))))

    starts : (most : ℕ) → Resting p s most ed (virtual first.0) no_tally r
    starts most =
        record {
          rests = h;
          block = first.0;
          level = virtual-level N first.0 first.1;
          stands = first.2;
          edition = refl;
          between =
              record {
                since = 0;
                sum = λ l. absurd (omega (arith, l));
                bounds =
                    record {
                      sum = omega (arith, zero-mul (suc s - most));
                      few = omega (arith, mul-zero (by_edition (reads_in r) 6 10));
                      large = omega arith;
                      less = omega arith;
                    };
              };
        }

    ran : (most : ℕ) → ClaimedAtMost N m most img r cs → Runs p s most ed img r [] cs (virtual first.0) no_tally
    ran most c = runs p s most ed img r (virtual first.0) [] no_tally by refl (starts most) cs u c

    bounded : (most : ℕ) → ClaimedAtMost N m most img r cs → Bounds s most (by_edition (reads_in r) 6 10) (longest r) total
    bounded most c = let w = ran most c in (w.1 w.0.0 w.0.1).bounds

    -- whatever is claimed
    each : Runs p s s ed img r [] cs (virtual first.0) no_tally
    each = ran s (claimed_always s img r cs refl)

    counted_all : (xs : List Step) → Does N m img r [] cs xs → erase_count xs ≡ total.erases
    counted_all xs d = omega (arith, (each.1 xs d).erased)

    spread_all : (xs : List Step) (k : ℕ) → Does N m img r [] cs xs → k < N → N * (erases_of k xs - 1) ≤ total.erases - 1
    spread_all xs k d l =
        let w = (each.1 xs d).level in
        subst (λ (i : ℕ). N * (erases_of k xs - 1) ≤ i - 1) (counted_all xs d) (spreads N first.0 w.0 xs first.1 w.1 k l)

    pub endures : Endures N m img r cs
    endures =
        record {
          worked = record { some = each.0; image = λ xs d. (each.1 xs d).told.image; each = λ xs d. (each.1 xs d).told.each };
          each_rises = counted_all;
          strong = λ most c. (bounded most c).sum;
          doubled = λ c. twice s (by_edition (reads_in r) 6 10) (longest r) total (bounded (s / 2) c);
          asked = λ l c. asked_bound s (by_edition (reads_in r) 6 10) (longest r) total (bounded (s / 2) c) l;
          always = (bounded s (claimed_always s img r cs refl)).few;
          spread = spread_all;
          each_block = λ xs k d l g c. le_trans (mul-le-mul_right (s / 2 - longest r + 1) (spread_all xs k d l))
              (asked_bound s (by_edition (reads_in r) 6 10) (longest r) total (bounded (s / 2) c) g);
        }

  stepped_kept : (n : ℕ) (o : Out) → Bytes o.image → Bytes (steps_on m n o).image
  stepped_kept zero o b = b
  stepped_kept (suc n) o b = stepped_kept n (m o.image o.board step) (bytes_kept o.image o.board step b)

  stepped_size : (n : ℕ) (o : Out) → length (steps_on m n o).image ≡ length o.image
  stepped_size zero o = refl
  stepped_size (suc n) o = stepped_size n (m o.image o.board step) ∙ length_kept o.image o.board step

pub firm_wear : FirmWear
unfolding FirmWear Enduring
firm_wear N m k img r cs by ok h u = endures k.calls img r cs by ok h u

pub firm_wear-mounted : FirmWearMounted
unfolding FirmWearMounted
firm_wear-mounted N m k img r n cs by ok i u =
    let p = k.calls in
    let o : Out = m img r mount in
    endures p (steps_on m n o).image (steps_on m n o).board cs (stepped_kept p n o (bytes_kept p img r mount by))
    (ap (allowed N) (stepped_size p n o ∙ length_kept p img r mount) ∙ ok) (subst Rests (sym i) tt) u
