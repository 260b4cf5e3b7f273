-- Erase counts: what is counted are the steps of the jobs' plans, which every machine that keeps the promise does one by one; a transfer erases the
-- block that it leaves and goes to the next, so in a run two blocks' counts differ by at most one.
use mathlib.Core.Path.{◌≡◌, refl, sym, ap, subst, ◌∙◌}
use mathlib.Core.List.{List, [], ◌∷◌, ◌++◌, append_assoc}
use mathlib.Core.Logic.{inl}
use mathlib.Core.Bool.{true, false}
use Prim.Native.Nat.{ℕ, suc, ◌+◌, ◌-◌, ◌*◌, ◌≤◌, ◌<◌}
use native.Mathlib.Nat.{mul-zero, mul-suc}
use native.Mathlib.Omega.{arith}
use lib.Dec.{eqb, ltb}
use lib.ListN.{length}
use borrow.Author.Tests.{eqb-true, eqb-false, ltb-true, ltb-false, ne_eqb, eq-eqb}
use Rattle.frame.specs.declared.Edition.{Edition}
use Rattle.frame.specs.declared.Edition.TheVariants as edition
use Rattle.flash.specs.Bytes.{Bytes}
use Rattle.flash.specs.Flash.{Step, program, erase, block, size_of, Write, writes}
use Rattle.flash.proofs.Cases.{on_test}
use Rattle.flash.proofs.Image.{length-block, bytes-block}
use Rattle.frame.specs.Frame.{Frame, encode}
use Rattle.journal.specs.Replay.{State, frames_of, settled_only}
use Rattle.journal.specs.Block.{Journal, build, valid, block_state}
use Rattle.journal.specs.Sentences.{ValidBlock}
use Rattle.journal.proofs.Blocks.{blank-block}
use Rattle.journal.proofs.Sentences.{states-exact}
use Rattle.board.specs.declared.Rest.{Rest}
use Rattle.board.specs.declared.Record.{Record}
use Rattle.board.specs.Mount.{all_found, next_block, Upkeep, rests, mends, moves, upkeep, Store, wipe_list, store_at, replay_of, claimed_of}
use Rattle.board.specs.Mount.{closed_end, closes_for, due_reset, block_in}
use Rattle.board.specs.Exec.{Call, request, step, mount, format}
use Rattle.board.specs.Plan.{on_block, transfer_plan, Work, upkeep_work, frame_in}
use Rattle.board.specs.Promise.{Job, frame_job, mount-job, format-job, convert-job}
use Rattle.board.specs.Wear.{erases_of, ErasesExact}
use Rattle.board.specs.Endurance.{erase_count}
use Rattle.board.specs.Queue.{counted}
use Rattle.board.proofs.Lengths.{frame_cases}
use Rattle.board.proofs.Numbers.{next_up, next-round}
use Rattle.board.proofs.Images.{Sized, size-of, sized-block}
use Rattle.board.proofs.Invariant.{Quiet, Ready}
use Rattle.board.proofs.Current.{blank-quiet}
use Rattle.board.proofs.Erasing.{In}
use Rattle.board.proofs.Wiping.{wipes_exact}

-- ---- counts

pub erases-append : (j : ℕ) (xs ys : List Step) → erases_of j (xs ++ ys) ≡ erases_of j xs + erases_of j ys
unfolding erases_of
erases-append j [] ys = omega arith
erases-append j (program k o v ∷ xs) ys = erases-append j xs ys
erases-append j (erase k ∷ xs) ys =
    on_test (eqb k j) (λ t. rw t (omega (arith, erases-append j xs ys))) (λ t. rw t (erases-append j xs ys))

pub erases-exact : ErasesExact
unfolding erases_of
erases-exact =
    record {
      none = λ k. refl;
      its_block = λ k xs ys. let t = eq-eqb k k refl in let e : erases_of k (erase k ∷ ys) ≡ suc (erases_of k ys) = rw t in
          omega (arith, erases-append k xs (erase k ∷ ys), erases-append k xs ys);
      other_block = λ j k xs ys n. let t = ne_eqb j k n in let e : erases_of k (erase j ∷ ys) ≡ erases_of k ys = rw t in
          omega (arith, erases-append k xs (erase j ∷ ys), erases-append k xs ys);
      programs = λ j k o v xs ys. omega (arith, erases-append k xs (program j o v ∷ ys), erases-append k xs ys);
    }

erases-program : (j k o v : ℕ) (xs : List Step) → erases_of j (xs ++ (program k o v ∷ [])) ≡ erases_of j xs
unfolding erases_of
erases-program j k o v xs = omega (arith, erases-append j xs (program k o v ∷ []))

erases-same : (j k : ℕ) (xs : List Step) → eqb k j ≡ true → erases_of j (xs ++ (erase k ∷ [])) ≡ suc (erases_of j xs)
unfolding erases_of
erases-same j k xs t = let e : erases_of j (erase k ∷ []) ≡ 1 = rw t in omega (arith, erases-append j xs (erase k ∷ []))

erases-other : (j k : ℕ) (xs : List Step) → eqb k j ≡ false → erases_of j (xs ++ (erase k ∷ [])) ≡ erases_of j xs
unfolding erases_of
erases-other j k xs t = let e : erases_of j (erase k ∷ []) ≡ 0 = rw t in omega (arith, erases-append j xs (erase k ∷ []))

pub count-append : (xs ys : List Step) → erase_count (xs ++ ys) ≡ erase_count xs + erase_count ys
unfolding erase_count
count-append [] ys = omega arith
count-append (program k o v ∷ xs) ys = count-append xs ys
count-append (erase k ∷ xs) ys = omega (arith, count-append xs ys)

-- with k the current block: each transfer erases the block it leaves, so those below k were erased once more than the others
pub record Level (N : ℕ) (xs : List Step) (k : ℕ) : Type 0 where
  pub there : k < N
  pub rounds : ℕ
  pub below : (j : ℕ) → j < k → erases_of j xs ≡ suc rounds
  pub others : (j : ℕ) → k ≤ j → j < N → erases_of j xs ≡ rounds
  pub total : erase_count xs ≡ N * rounds + k

-- the steps before a last one
pub level-on : {N : ℕ} (xs ys : List Step) (x : Step) → (k : ℕ) × Level N ((xs ++ (x ∷ [])) ++ ys) k → (k : ℕ) × Level N (xs ++ (x ∷ ys)) k
level-on {N} xs ys x l = subst (λ (zs : List Step). (k : ℕ) × Level N zs k) (append_assoc xs (x ∷ []) ys) l

pub level-even : {N k : ℕ} {xs : List Step} → Level N xs k → (i j : ℕ) → i < N → j < N → erases_of i xs ≤ suc (erases_of j xs)
level-even {N} {k} {xs} y i j hi hj = omega (arith, near i hi, near j hj)
  where
    near : (j : ℕ) → j < N → (y.rounds ≤ erases_of j xs) × (erases_of j xs ≤ suc y.rounds)
    near j h =
        on_test (ltb j k) (λ t. let e = y.below j (ltb-true j k t) in (omega arith, omega arith))
        (λ t. let e = y.others j (ltb-false j k t) h in (omega arith, omega arith))

level-program : {N k : ℕ} {xs : List Step} (j o v : ℕ) → Level N xs k → Level N (xs ++ (program j o v ∷ [])) k
unfolding erase_count
level-program {N} {k} {xs} j o v y =
    record {
      there = y.there;
      rounds = y.rounds;
      below = λ i h. erases-program i j o v xs ∙ y.below i h;
      others = λ i l h. erases-program i j o v xs ∙ y.others i l h;
      total = omega (arith, count-append xs (program j o v ∷ []), y.total);
    }

-- no step is done yet
pub level-none : (N : ℕ) → 0 < N → Level N [] 0
unfolding erases_of erase_count
level-none N h =
    record { there = h; rounds = 0; below = λ j l. absurd (omega arith); others = λ j l g. refl; total = let z = mul-zero N in omega arith }

-- the erase of a transfer
pub level-next : {N k : ℕ} {xs : List Step} → Level N xs k → Level N (xs ++ (erase k ∷ [])) (next_block N k)
unfolding erase_count
level-next {N} {k} {xs} y =
    on_test (ltb (suc k) N)
    (λ t. let h : suc k < N = ltb-true (suc k) N t in subst (Level N (xs ++ (erase k ∷ []))) (sym (next_up N k h)) (up h))
    (λ t. let h : N ≤ suc k = ltb-false (suc k) N t in subst (Level N (xs ++ (erase k ∷ []))) (sym (next-round N k h)) (round h))
  where
    up : suc k < N → Level N (xs ++ (erase k ∷ [])) (suc k)
    up h =
        record {
          there = h;
          rounds = y.rounds;
          below = λ j l. on_test (eqb k j)
              (λ t. erases-same j k xs t ∙ ap suc (y.others j (omega (arith, eqb-true k j t)) (omega arith)))
              (λ t. erases-other j k xs t ∙ y.below j (omega (arith, eqb-false k j t)));
          others = λ j l g. erases-other j k xs (ne_eqb k j (λ e. omega arith)) ∙ y.others j (omega arith) g;
          total = omega (arith, count-append xs (erase k ∷ []), y.total);
        }

    round : N ≤ suc k → Level N (xs ++ (erase k ∷ [])) 0
    round h =
        record {
          there = omega (arith, y.there);
          rounds = suc y.rounds;
          below = λ j l. absurd (omega arith);
          others = λ j l g. on_test (eqb k j)
              (λ t. erases-same j k xs t ∙ ap suc (y.others j (omega (arith, eqb-true k j t)) g))
              (λ t. erases-other j k xs t ∙ y.below j (omega (arith, eqb-false k j t)));
          total =
              let n : N * suc y.rounds ≡ N * y.rounds + N = mul-suc N y.rounds in
              omega (arith, y.there, count-append xs (erase k ∷ []), y.total);
        }

-- ---- the plans: level before each step, and at the end at the block that is then the current one

abbrev pub Leads : ℕ → List Step → List Step → ℕ → Type 0
Leads N xs [] b = Level N xs b
Leads N xs (x ∷ ys) b = ((k : ℕ) × Level N xs k) × Leads N (xs ++ (x ∷ [])) ys b

-- the work of a job leads to the block where its record ends
abbrev pub WorkLeads : ℕ → List Step → Work → Type 0
WorkLeads N xs w = Leads N xs w.steps w.last.rest.block

module _ {N : ℕ} where
  -- bytes programmed, and then the rest
  leads_on : {k : ℕ} {xs : List Step} (j b : ℕ) (ws : List Write) (ys : List Step) → Level N xs k → ((zs : List Step) → Level N zs k → Leads N zs ys b)
      → Leads N xs (on_block j ws ++ ys) b
  leads_on {k} {xs} j b [] ys l f = f xs l
  leads_on {k} j b (w ∷ ws) ys l f = ((k, l), leads_on j b ws ys (level-program j w.at w.byte l) f)

  leads_writes : {b : ℕ} {xs : List Step} (j : ℕ) (ws : List Write) → Level N xs b → Leads N xs (on_block j ws) b
  leads_writes j [] l = l
  leads_writes {b} j (w ∷ ws) l = ((b, l), leads_writes j ws (level-program j w.at w.byte l))

  -- a transfer ends with the erase of the block that it leaves
  leads_transfer : {k : ℕ} {xs : List Step} (ed : Edition) (w : Journal) (st : State) → Level N xs k
      → Leads N xs (transfer_plan ed N k w st) (next_block N k)
  leads_transfer {k} ed w st l = leads_on (next_block N k) (next_block N k) (build ed (suc w.time) (frames_of st))
      (erase k ∷ []) l (λ zs h. ((k, h), level-next h))

  pub leads_frame : {xs : List Step} (s : ℕ) (z : Rest) (x : Journal) (f : Frame) → Level N xs z.block
      → WorkLeads N xs (frame_in s (next_block N z.block) z x f)
  leads_frame {xs} s z x f l =
      let k : ℕ = z.block in
      let j : ℕ = next_block N k in
      let ws : List Write = build x.edition (suc x.time) (frames_of (replay_of x)) in
      let us : List Write = writes (claimed_of x) (encode x.edition f) in
      frame_cases (WorkLeads N xs) s j z x f
      (λ e. subst (λ (p : List Step). Leads N xs p j) (sym (append_assoc (on_block j ws) (erase k ∷ []) (on_block j us)))
      (leads_on j j ws (erase k ∷ on_block j us) l (λ zs h. ((k, h), leads_writes j us (level-next h)))))
      (λ e. leads_writes k (writes z.end (encode x.edition f)) l)

  leads_upkeep : {xs : List Step} (u : Upkeep) (n : ℕ) (b : List ℕ) (x : Store) → Level N xs x.number
      → WorkLeads N xs (upkeep_work u (next_block N x.number) b (store_at N n x) x)
  leads_upkeep moves n b x l = leads_transfer x.journal.edition x.journal (settled_only (replay_of x.journal)) l
  leads_upkeep rests n b x l = l
  leads_upkeep mends n b x l =
      leads_on x.number x.number (closes_for mends b x.journal) (on_block x.number (writes (closed_end x.journal) (due_reset x.journal))) l
      (λ zs h. leads_writes x.number (writes (closed_end x.journal) (due_reset x.journal)) h)

-- ---- the image between jobs

-- one block is valid, and the steps done are level there
abbrev pub Here : ℕ → ℕ → List ℕ → List Step → Type 0
Here N s img xs = (q : Record) × Ready N s img q × Level N xs q.rest.block

-- a valid block of such an image is the current one
only-valid : {N s : ℕ} {img : List ℕ} {q : Record} {w : Journal} (k : ℕ) → Ready N s img q → k < N
    → block_state (block s k img) ≡ valid w → q.rest.block ≡ k
only-valid {N} {s} {img} {q} k y h v =
    on_test (eqb k y.stands.block) (λ e. ap (λ (x : Record). x.rest.block) y.is ∙ sym (eqb-true k y.stands.block e))
    (λ e. absurd (subst Quiet v (blank-quiet s (block s k img) (y.others k h (eqb-false k y.stands.block e)))))

-- a request or a mount
abbrev pub Begin : Call → Type 0
Begin (request h msg reply) = Unit {0}
Begin step = ⊥
Begin mount = Unit {0}
Begin format = ⊥

module _ {N s : ℕ} {img : List ℕ} {xs : List Step} (z : Sized N s img) (by : Bytes img) (y : Here N s img xs) where
  -- it is the block that a job's sentences name
  same_block : {w : Journal} (k : ℕ) → k < N → ValidBlock (block (size_of N img) k img) w → y.0.rest.block ≡ k
  same_block {w} k h v =
      let b : List ℕ = block s k img in
      let long : length b ≡ s = length-block s k img (sized-block k z h) in
      only-valid k y.1 h
      ((states-exact.is-valid b w (bytes-block s k img by) (omega (arith, z.low))).1
      (subst (λ (n : ℕ). ValidBlock (block n k img) w) (size-of z) v))

  -- every other block is blank, so that a mount erases none
  wipes_none : (n : ℕ) → y.0.rest.block ≡ n → wipe_list n (all_found N img) ≡ []
  wipes_none n e = go (wipe_list n (all_found N img)) refl
    where
      go : (ks : List ℕ) → wipe_list n (all_found N img) ≡ ks → ks ≡ []
      go [] p = refl
      go (k ∷ ks) p =
          let i = (wipes_exact N n img k).0 (subst (In k) (sym p) (inl refl)) in
          absurd (i.2 (ap (λ (m : ℕ). block_state (block m k img)) (size-of z)
          ∙ ap block_state (y.1.others k i.0 (λ d. i.1 (d ∙ sym (ap (λ (x : Record). x.rest.block) y.1.is) ∙ e))) ∙ blank-block s))

  pub job_leads : {r : Record} {c : Call} {w : Work} → Begin c → Job N img r c w → WorkLeads N xs w
  job_leads {r} n (frame_job h msg reply x q f v k g) =
      leads_frame (size_of N img) (counted r.rest x f) x f (subst (Level N xs) (same_block r.rest.block v.there v.is-valid) y.2)
  job_leads {r} n (convert-job h msg reply x q v k g) =
      leads_transfer edition.Second x (settled_only (replay_of x)) (subst (Level N xs) (same_block r.rest.block v.there v.is-valid) y.2)
  job_leads n (mount-job x v) =
      let e : y.0.rest.block ≡ x.number = same_block x.number v.is-valid.0 v.is-valid.1 in
      rw (wipes_none x.number e)
      (leads_upkeep (upkeep (size_of N img) x) (length img - 1) (block_in N img x) x (subst (Level N xs) e y.2))
  job_leads n format-job = absurd n
