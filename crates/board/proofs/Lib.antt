-- The laws and theorems of the board, by subject. Each file's first line says what it proves.

-- ---- images and blocks: used by every group below
pub mod Editions  -- the papers' numbers for each edition: for most below
pub mod Numbers  -- of blocks: the one that a transfer goes to, all, all but one
pub mod Images  -- allowed lengths, and what steps do to each block
pub mod Blocks  -- lists of block numbers
pub mod Found  -- the valid blocks, the newest of them, those of one time, the lowest foreign block
pub mod Upkeep  -- what a mount does after its erases
pub mod Order  -- the order in which a format erases the blocks
pub mod Prefixes  -- what holds at every step of a list of steps
pub mod Invariant  -- what holds of image, record and book between the calls of a run: stated for every group below
pub mod Current  -- one valid block with every other blank
pub mod Erasing  -- what erases make of an image
-- ---- outcomes: the definitions of the calls, opened here and nowhere else
pub mod Outcomes
-- ---- jobs: step calls do the plan
pub mod Lengths  -- of plans
pub mod Pipeline  -- one stage
pub mod PipelineEnd  -- Seal, Drop, Append
pub mod PipelineClose  -- Close
pub mod PipelineCopy  -- Open, Copy
pub mod PipelineJob  -- all stages
pub mod Accepted  -- the job of each accepted call follows its plan
pub mod Jobs  -- a job in a run
pub mod Stepping  -- what n step calls of a job have done
-- ---- mount and format
pub mod Wiping  -- the blocks that a mount erases
pub mod Deciding  -- what a mount decides
pub mod Mounting  -- what an accepted mount does
pub mod Formatting  -- what a format does
-- ---- the queue
pub mod Appending  -- a frame appended
pub mod Transferring  -- a transfer
pub mod Framing  -- a frame appended, after a transfer or without
pub mod Mending  -- a torn frame closed, and a reset
pub mod Holding  -- an image that passes refusal 11
pub mod Replies  -- what reads and the log say
pub mod Freshness  -- refusal 11 is as document 01 words it: for the demands too
pub mod Reading  -- reads by their places: for Requests and all below
pub mod Books  -- the book beside replay
pub mod Keeping  -- the invariant in each phase, and after a step
pub mod Converting  -- a convert: for Serving, Planning, Promising
pub mod Serving  -- the invariant after a request that is served
pub mod Requests  -- the invariant after any request
-- ---- the demands
pub mod Checks  -- the table as the machine tests it
pub mod Refusals  -- demand 1: refusals
pub mod Ending  -- demand 1: forged records end
pub mod Fitting  -- a request's frame fits: for Planning
pub mod Planning  -- demand 2: requests follow their plans
pub mod Demand2  -- demand 2: mounts, formats, runs
pub mod Claiming  -- demand 3
pub mod CutFormat  -- what a cut format leaves
pub mod Wear  -- erases counted, and the plans level: for WearRuns
pub mod WearRuns  -- K14, erase counts of every run: to read
pub mod Rising  -- bits that rise: for Endurance
pub mod Tallies  -- K12, the sums by numbers alone: for Endurance
pub mod Endurance  -- K12, the counts of a frame's job: for EnduranceRuns
pub mod EnduranceRuns  -- K12, the counts of every run: for EnduranceBounds
pub mod EnduranceBounds  -- K12, the bounds: to read
-- ---- the promise
pub mod Sentences  -- frames, plans and places, which the promise uses, are as document 01 words them
pub mod SentencesMounts  -- and so are a mount's steps
pub mod Counting  -- and so are a record's pending counts after each job
pub mod Lines  -- from tests to the table's lines: for Tabling
pub mod TablingSteps  -- the test of a step: for Tabling
pub mod TablingReads  -- the table's lines of a read: for Tabling, Promising
pub mod Tabling  -- requests, steps and formats are refused by the table's lines
pub mod ReadsLocal  -- an accepted read is of one frame: for Promising, Determining
pub mod TablingMounts  -- mounts are
pub mod Answering  -- answers: numbers, lines, what they tell
pub mod Telling  -- the answer tells the record
pub mod Promising  -- the machine keeps each clause
pub mod Alike  -- two machines between calls, two outcomes: for Determining
pub mod Determining  -- the clauses settle all that a machine shows
pub mod Finishing  -- the job that a call began can be finished, in so many steps
pub mod Limits  -- demand 2 of any machine that keeps the table: room and wear
pub mod Clearing  -- programming only clears bits
pub mod LimitsConverts  -- demand 2 of converts
pub mod Following  -- the k-th step, demand 3 and a cut format, of any machine that keeps the clauses
pub mod FollowingPlans  -- demand 2 of it, and the whole promise
pub mod Runs  -- runs in two parts
pub mod Tight  -- a tight store, of any machine that keeps the promise
pub mod Tickets  -- the customer's two tickets, of any machine that keeps the promise
pub mod Counts  -- calls that are given another number of blocks
pub mod Driving  -- what is next, done to the flash by the caller, then made, is a step call
pub mod Two  -- two blocks are document 01's two halves: the image, requests, steps
pub mod TwoMounts  -- mounts, formats, and the whole comparison
