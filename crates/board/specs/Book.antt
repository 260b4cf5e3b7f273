-- The book, document 01, "The book for demand 3": it is fed each call's arguments other than image and record, and its answer.
use Rattle.std.specs.Prelude.{List, [], ◌∷◌, ◌++◌, true, false, ℕ, eqb, Some, None}
use Rattle.frame.specs.declared.Host.{Host}
use Rattle.frame.specs.Frame.{Change, put, delete}
use Rattle.journal.specs.Replay.{Object, change_all}
use Rattle.wire.specs.declared.Answer.{Answer}
use Rattle.wire.specs.declared.Answer.TheVariants.{Done, More, Refused}
use Rattle.wire.specs.declared.Request.{Request}
use Rattle.wire.specs.declared.Request.TheVariants.{Put, Delete, Commit, Abort, Read, Log, Convert}
use Rattle.wire.specs.Message.{Parsed, parse, value_in_of}
use Rattle.board.specs.Exec.{Call, request, step, mount, format}

-- "the commit or format under way, if any"
pub data UnderWay : Type 0 where
  nothing : UnderWay
  committing : Host → UnderWay
  formatting : UnderWay

-- "It holds objects, a list of changes for each host, and the commit or format under way"
pub record Book : Type 0 where
  pub objects : List Object
  pub lists : Host → List Change
  pub under : UnderWay

abbrev pub book : List Object → (Host → List Change) → UnderWay → Book
book os l u = record { objects = os; lists = l; under = u }

abbrev pub no_lists : Host → List Change
no_lists h = []

-- "At first all are empty and nothing is under way."
abbrev pub first_book : Book
first_book = book [] no_lists nothing

-- the lists with that of host h made another
abbrev pub with_list : (Host → List Change) → Host → List Change → Host → List Change
with_list l h cs g = elim (eqb h.0 g.0) [ true ↦ cs | false ↦ l g ]

-- "Accepted put or delete: it joins the end of its host's list."
abbrev pub join : Book → Host → Change → Book
join b h c = book b.objects (with_list b.lists h (b.lists h ++ (c ∷ []))) b.under

-- "Accepted abort: its host's list is emptied." "Accepted commit that has steps to do: it is under way."
abbrev pub accept : Book → Host → List ℕ → Request → Answer → Book
accept b h m (Put i) a = join b h (put i (value_in_of m))
accept b h m (Delete i) a = join b h (delete i)
accept b h m Commit Done = b
accept b h m Commit More = book b.objects b.lists (committing h)
accept b h m Commit (Refused n) = b
accept b h m Abort a = book b.objects (with_list b.lists h []) b.under
accept b h m (Read i) a = b
accept b h m (Log p) a = b
accept b h m Convert a = b

-- "Anything else, every other refusal too: no change."
abbrev pub enter_parsed : Book → Host → List ℕ → Parsed → Answer → Book
enter_parsed b h m None a = b
enter_parsed b h m (Some q) a = accept b h m q a

abbrev pub enter_request : Book → Host → List ℕ → Answer → Book
enter_request b h m Done = enter_parsed b h m (parse m) Done
enter_request b h m More = enter_parsed b h m (parse m) More
enter_request b h m (Refused n) = b

-- "a commit under way applies its host's list to the objects in order and empties the list ..; a format under way empties the
-- objects. Nothing is then under way."
abbrev pub finishing : Book → UnderWay → Book
finishing b nothing = b
finishing b (committing h) = book (change_all (b.lists h) b.objects) (with_list b.lists h []) nothing
finishing b formatting = book [] b.lists nothing

-- "Step that answers 0"
abbrev pub enter_step : Book → Answer → Book
enter_step b Done = finishing b b.under
enter_step b More = b
enter_step b (Refused n) = b

-- "Mount or format, refused or not: every list is emptied and nothing is under way. A format that isn't refused is then under way."
-- In a run no format is refused (`Claim`); the book is said for any answer, because it judges any machine
abbrev pub enter_format : Book → Answer → Book
enter_format b Done = book b.objects no_lists formatting
enter_format b More = book b.objects no_lists formatting
enter_format b (Refused n) = book b.objects no_lists nothing

-- "The book is fed each call's arguments other than image and record, and each call's answer."
abbrev pub enter_call : Book → Call → Answer → Book
enter_call b (request h m reply) a = enter_request b h m a
enter_call b step a = enter_step b a
enter_call b mount a = book b.objects no_lists nothing
enter_call b format a = enter_format b a
