-- A convert: a transfer of the settled objects into a block of the second edition.
use mathlib.Core.Path.{◌≡◌, refl, sym, ap, ap₂, subst, subst₂, ◌∙◌}
use mathlib.Core.List.{List, [], ◌∷◌}
use mathlib.Core.Bool.{Bool}
use Prim.Native.Nat.{ℕ, ◌+◌, ◌≤◌, ◌<◌}
use native.Mathlib.Omega.{arith}
use lib.Dec.{ltb, eqb}
use lib.ListN.{length}
use borrow.Author.Tests.{ltb-true, ltb-false, lt-ltb, eq-eqb}
use Rattle.flash.specs.Flash.{Step, apply_all, block, size_of}
use Rattle.flash.proofs.Cases.{on_test}
use Rattle.frame.specs.declared.Edition.{Edition}
use Rattle.frame.specs.declared.Edition.TheVariants as edition
use Rattle.frame.specs.declared.Host.{Host}
use Rattle.frame.proofs.Encode.{stands-edition}
use Rattle.journal.specs.Replay.{Object, State, state, list_of, is_open_of, frames_of, settled_only, Entry}
use Rattle.journal.specs.Block.{Journal, last_time}
use Rattle.journal.specs.Room.{used, used_by}
use Rattle.journal.proofs.Places.{Standing}
use Rattle.journal.proofs.PerHost.{counts-none, host-most}
use Rattle.journal.proofs.Replaying.{stands-settled, none-closed, LegalEntries, sound-replay}
use Rattle.journal.proofs.Room.{kept-none, claimed-settled}
use Rattle.wire.specs.declared.Refusal.TheVariants as refusal
use Rattle.wire.specs.declared.Answer.TheVariants.{More, Done, Refused}
use Rattle.wire.specs.declared.Request.TheVariants.{Convert}
use Rattle.journal.specs.Index.{places_of}
use Rattle.board.specs.declared.Record.{Record}
use Rattle.board.specs.declared.Phase.{Phase}
use Rattle.board.specs.declared.Phase.TheVariants.{Unmounted, Idle, Busy}
use Rattle.board.specs.Record.{answer_of, idle, landing, zero_each, Out, answer_in}
use Rattle.board.specs.Step.{enter_wipe}
use Rattle.board.specs.Mount.{next_block, replay_of}
use Rattle.board.specs.Queue.{convert_job, Asking, asking, serve, convert, serve_convert}
use Rattle.board.specs.Exec.{exec}
use Rattle.board.specs.Plan.{Performs, convert_work}
use Rattle.board.specs.Claim.{Track, ConvertSays}
use Rattle.board.specs.Book.{Book, nothing}
use Rattle.board.proofs.Images.{Sized, size-of}
use Rattle.board.proofs.Invariant.{Slack, roomy, tight, StepLands, Guard, InJob, Shares, Lists, IdleBook}
use Rattle.board.proofs.Prefixes.{Each}
use Rattle.board.proofs.Current.{After, Keeps}
use Rattle.board.proofs.Lengths.{length_transfer}
use Rattle.board.proofs.Transferring.{Moves, transfer_lands, transfer_guard, transferred}
use Rattle.board.proofs.Framing.{AsRecorded}
use Rattle.board.proofs.Jobs.{job-starts}
use Rattle.board.proofs.Replies.{standing-of}
use Rattle.board.proofs.Books.{shares-none}
use Rattle.board.proofs.Accepted.{follows-convert}
use Rattle.board.proofs.Outcomes.{serve-convert, convert_pending, convert_refused, convert_goes, convert_worn, convert_begins, convert_there}

-- a convert that is not refused
pub record Convertible (s : ℕ) (r : Record) (x : Journal) : Type 0 where
  pub young : x.time < last_time
  pub fits : used edition.Second (replay_of x) ≤ s
  pub none_pending : r.rest.pending ≡ zero_each

module _ {N : ℕ} {s : ℕ} {img : List ℕ} {r : Record} {x : Journal} (h : AsRecorded N s img r x) (y : Convertible s r x) where
  abbrev st : State
  st = settled_only (replay_of x)

  moves : Moves s edition.Second x st
  moves =
      record {
        young = y.young;
        stands =
            stands-edition x.edition edition.Second 0 (frames_of st) (none-closed st) (stands-settled x.edition x.frames h.alone.contents.layout.stands);
        short = omega (arith, y.fits, claimed-settled edition.Second (replay_of x));
      }

  pub convert_lands : Each s (StepLands s) (convert_work N img r x).steps img
  convert_lands = transfer_lands h.alone edition.Second st moves

  pub convert_guard : {os : List Object} (u : Track) → Keeps u.tight s x.edition (replay_of x) os → Keeps u.tight s edition.Second st os
      → Each s (Guard N s os u) (convert_work N img r x).steps img
  convert_guard u p q = transfer_guard h.alone edition.Second st moves u p q

  pub convert_ends : After N s edition.Second (apply_all s (convert_work N img r x).steps img) (convert_work N img r x).last st
  unfolding is_open_of
  convert_ends =
      subst (λ (n : ℕ). After N s edition.Second (apply_all s (convert_work N img r x).steps img)
      (idle (places_of edition.Second (frames_of st)) (landing r.rest 2 (next_block N r.rest.block) n)) st)
      (claimed-settled edition.Second (replay_of x))
      (transferred h.alone edition.Second st moves r.rest h.blocks h.long
      (y.none_pending ∙ sym (counts-none edition.Second st.objects)) (omega (arith, y.fits, claimed-settled edition.Second (replay_of x))))

  pub convert_some : 0 < length (convert_work N img r x).steps
  convert_some =
      omega (arith, length_transfer edition.Second (next_block N r.rest.block) r.rest.block x st)

  pub convert_short : length (convert_work N img r x).steps ≤ s
  convert_short =
      omega (
        arith,
        y.fits,
        length_transfer edition.Second (next_block N r.rest.block) r.rest.block x st,
        claimed-settled edition.Second (replay_of x),
      )

  -- the job does the plan
  pub convert_follows : Sized N s img → Performs N (exec N) img (enter_wipe (convert_job N img r x)) (convert_work N img r x)
  convert_follows z =
      let j : Standing x.edition (block (size_of N img) r.rest.block img) x.frames =
      subst (λ (n : ℕ). Standing x.edition (block n r.rest.block img) x.frames) (sym (size-of z)) (standing-of h.alone.contents) in
      follows-convert img r x z.count h.long h.blocks h.alone.there j (sym h.ends) h.edition_is (omega (arith, y.fits, size-of z))

  -- whatever holds of each step and of the end: the job is begun
  pub convert_starts : {P : Step → List ℕ → Type 0} {Q : List ℕ → Record → Type 0} → Sized N s img → Each s P (convert_work N img r x).steps img
      → Q (apply_all s (convert_work N img r x).steps img) (convert_work N img r x).last
      → (answer_of (enter_wipe (convert_job N img r x)) ≡ More) × InJob N s P Q img (enter_wipe (convert_job N img r x))
  convert_starts z each ends =
      job-starts img (enter_wipe (convert_job N img r x)) (convert_work N img r x).steps (convert_work N img r x).last
      (convert_follows z) convert_some each ends refl

-- ---- room

-- the converted store has room for a delete and its commit, or is tight
pub convert_slack : (s : ℕ) (os : List Object) → Slack (ltb s (used_by edition.Second os + 22)) s edition.Second (state os [])
convert_slack s os =
    on_test (ltb s (used_by edition.Second os + 22))
    (λ e. tight e refl refl (omega (arith, ltb-true s (used_by edition.Second os + 22) e)))
    (λ e. roomy (omega (arith, ltb-false s (used_by edition.Second os + 22) e, kept-none edition.Second (state os []) refl)))

-- the old block stays as roomy as it was
pub slack_first : (t w : Bool) (s : ℕ) (ed : Edition) (st : State) → ed ≡ edition.First → Slack t s ed st → Slack w s ed st
slack_first t w s ed st e (roomy l) = roomy l
slack_first t w s ed st e (tight q f p l) = absurd (apart (sym e ∙ f))
  where
    apart : edition.First ≡ edition.Second → ⊥
    apart q = let z : ◌≡◌ {A = ℕ} 0 1 = cc in omega arith

-- a store that is in edition 2 already is as tight as it was
pub slack_again : {t : Bool} {s : ℕ} {ed : Edition} (st : State) (os : List Object) → st.objects ≡ os → Slack t s ed st
    → Slack (ltb s (used_by edition.Second os + 22)) s ed st
slack_again st os o (roomy l) = roomy l
slack_again {s = s} st os o (tight q f p l) =
    let e : used _ st ≡ used_by edition.Second os = ap₂ used_by f o in
    tight (lt-ltb s (used_by edition.Second os + 22) (omega (arith, l, e))) f p l

-- the converted store beside the same book
pub converted-book : {N : ℕ} {s : ℕ} {img : List ℕ} {r : Record} (u : Track) (b : Book) (st : State) → After N s edition.Second img r (settled_only st)
    → Slack u.tight s edition.Second (settled_only st) → st.objects ≡ b.objects → Lists [] b → b.under ≡ nothing → IdleBook N s u img r b
converted-book {N} {s} u b st a l o ls n =
    record {
      ready = a.ready;
      spare = subst₂ (Slack u.tight s) (sym a.edition) (sym a.state) l;
      shares = subst₂ (λ (d : Edition) (x : State). Shares s d x.pending) (sym a.edition) (sym a.state) (shares-none s edition.Second);
      objects = ap (λ (x : State). x.objects) a.state ∙ o;
      lists = λ g k. ap (λ (x : State). list_of g x.pending) a.state ∙ ls g k;
      under = n;
    }

-- ---- what a convert says of the book's lists

own_list : (e : Entry) (es : List Entry) → list_of e.host (e ∷ es) ≡ [] → ⊥
unfolding list_of
own_list e es q =
    let p : e.what ∷ list_of e.host es ≡ [] = rw (eq-eqb e.host.0 e.host.0 refl, list_of) at q in let w : ◌≡◌ {A = ℕ} 0 1 = cc in omega arith

no-pending : (p : Phase) → answer_in p ≡ Refused refusal.Pending → ⊥
no-pending Unmounted q = let w : ◌≡◌ {A = ℕ} 0 1 = cc in omega arith
no-pending Idle q = let w : ◌≡◌ {A = ℕ} 0 1 = cc in omega arith
no-pending (Busy g) q = let w : ◌≡◌ {A = ℕ} 0 1 = cc in omega arith

pub convert-says : {N : ℕ} {s : ℕ} {u : Track} {img : List ℕ} {r : Record} {b : Book} → Sized N s img
    → (y : IdleBook N s u img r b) (h : Host) (m reply : List ℕ) → ConvertSays (serve (asking N img r h m reply) y.ready.journal Convert) b
unfolding list_of
convert-says {N} {s} {u} {img} {r} {b} z y h m reply =
    subst (λ (o : Out). ConvertSays o b) (sym (serve-convert a x)) (go (replay_of x).pending refl)
  where
    a : Asking
    a = asking N img r h m reply

    x : Journal
    x = y.ready.journal

    goes_on : (replay_of x).pending ≡ [] → (serve_convert a x).answer ≡ Refused refusal.Pending → ⊥
    goes_on p c =
        on_test (ltb (size_of N img) (used edition.Second (replay_of x)))
        (λ t. let d : Refused refusal.NoRoom ≡ Refused refusal.Pending = ap (λ (o : Out). o.answer) (sym (convert_refused a x p t)) ∙ c in
        let w : ◌≡◌ {A = ℕ} 0 1 = cc in omega arith)
        (λ t. in_edition x.edition (ap (λ (o : Out). o.answer) (sym (convert_goes a x p t)) ∙ c))
      where
        in_edition : (d : Edition) → (convert a x d).answer ≡ Refused refusal.Pending → ⊥
        in_edition edition.First q =
            on_test (eqb x.time last_time)
            (λ t. let d : Refused refusal.Worn ≡ Refused refusal.Pending = ap (λ (o : Out). o.answer) (sym (convert_worn a x t)) ∙ q in
            let w : ◌≡◌ {A = ℕ} 0 1 = cc in omega arith)
            (λ t. no-pending (enter_wipe (convert_job N img r x)).phase (ap (λ (o : Out). o.answer) (sym (convert_begins a x t)) ∙ q))
        in_edition edition.Second q =
            let d : Done ≡ Refused refusal.Pending = ap (λ (o : Out). o.answer) (sym (convert_there a x)) ∙ q in
            let w : ◌≡◌ {A = ℕ} 0 1 = cc in omega arith

    go : (es : List Entry) → (replay_of x).pending ≡ es → ConvertSays (serve_convert a x) b
    go (e ∷ es) p =
        let here : e.host.0 ≤ 3 =
        host-most x.edition e (subst (LegalEntries x.edition) p
        (sound-replay x.edition x.frames y.ready.contents.layout.stands).entries).0 in
        record {
          some_pending = λ g k n. ap (λ (o : Out). o.answer) (convert_pending a x e es p);
          none_pending = λ f c. own_list e es (sym (ap (list_of e.host) p) ∙ y.lists e.host here ∙ f e.host here);
        }
    go [] p =
        record {
          some_pending = λ g k n. absurd (n (sym (y.lists g k) ∙ ap (list_of g) p));
          none_pending = λ f c. goes_on p c;
        }
