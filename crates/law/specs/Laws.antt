-- What the history of a run says of a port and of a pump.
use Rattle.std.specs.Prelude.{◌≡◌, ℕ, ◌+◌, ◌<◌, ◌≤◌, min, Bool, true, false, cond, not, ltb, ◌⊎◌, List, [], ◌∷◌, length, drop, filter, ◌==◌, nat_lt}
use Rattle.std.specs.List.{Contains, flat_map, All}
use Rattle.reading.specs.declared.message.Message.{Message}
use Rattle.reading.specs.Reading.{Model}
use Rattle.law.specs.Calls.{Call, Pump, At, PortCall, Open, Take, Missed, Close, Answer, refused, done, passed, gave, told, wantable, depth, most_limit, most_bytes}
use Rattle.law.specs.Runs.{History, start, called, questioned, Opening, closed, since, pumped, opening, given, came, given_at}

-- Each message's number is below those of all that stand behind it.
abbrev pub Rises : List Message → Type 0
Rises [] = Unit {0}
Rises (m ∷ ms) = All (λ x. m.number < x.number) ms × Rises ms

-- A message with this number stands in the list.
abbrev pub among : ℕ → List Message → Bool
among n [] = false
among n (m ∷ ms) = cond (m.number == n) true (among n ms)

-- The messages of the list that do not stand in the other.
abbrev pub without : List Message → List Message → List Message
without ms out = filter (λ m. not (among m.number out)) ms

-- The messages of the list that are numbered below m.
abbrev pub ahead : Message → List Message → List Message
ahead m ms = filter (λ x. ltb x.number m.number) ms

-- No two messages of the list have one number.
abbrev pub Apart : List Message → Type 0
Apart [] = Unit {0}
Apart (m ∷ ms) = (among m.number ms ≡ false) × Apart ms

-- What waits when m comes, of the messages that came to a port: those that came before m, that were not lost as one of these came, and that were not given by then.
abbrev pub waiting_when : (lost : Message → List Message) (came given : List Message) → Message → List Message
waiting_when lost came given m = without (without (ahead m came) (flat_map lost (ahead m came))) given

-- What is lost as m comes to an open port where these wait: m itself if the port is full.
abbrev pub lost_when : List Message → Message → List Message
lost_when waits m = cond (nat_lt (length waits) depth) [] (m ∷ [])

-- m was lost, and sixteen waited; or nothing was lost, and fewer waited.
abbrev pub LostIfFull : (lost waits : List Message) → Message → Type 0
LostIfFull lost waits m = ((lost ≡ m ∷ []) × (depth ≤ length waits)) ⊎ ((lost ≡ []) × (length waits < depth))

-- What a take of an open port answers where these messages wait, oldest first.
abbrev pub oldest : List Message → Answer
oldest [] = refused 8
oldest (m ∷ ms) = gave m

-- The first answer if the port is open, else the second.
abbrev pub when_open : Opening → Answer → Answer → Answer
when_open closed open' shut' = shut'
when_open (since n wanted) open' shut' = open'

-- The calls of the port p, from the last to the first, each with the bytes pumped before it.
abbrev pub asked_by : (p : ℕ) → List ℕ → Call → List (PortCall × List ℕ) → List (PortCall × List ℕ)
asked_by p bs (Pump limit waits) calls = calls
asked_by p bs (At q c) calls = cond (q == p) ((c, bs) ∷ calls) calls

abbrev pub asked : {R : Type 0} → (p : ℕ) → History R → List (PortCall × List ℕ)
asked p start = []
asked p (called h c a) = asked_by p (pumped h) c (asked p h)
asked p (questioned h q s) = asked p h

-- The answers to them, in the same order.
abbrev pub answered_by : (p : ℕ) → Call → Answer → List Answer → List Answer
answered_by p (Pump limit waits) a answers = answers
answered_by p (At q c) a answers = cond (q == p) (a ∷ answers) answers

abbrev pub answered : {R : Type 0} → (p : ℕ) → History R → List Answer
answered p start = []
answered p (called h c a) = answered_by p c a (answered p h)
answered p (questioned h q s) = answered p h

-- What a pump answers over a line in which `waits` wait, after a history that has pumped so many bytes.
pub record PumpLaw (before limit : ℕ) (waits : List ℕ) (a : Answer) : Type 0 where
  -- A limit of 0 or above 4096 is refused.
  pub no_limit : limit ≡ 0 → a ≡ refused 1
  pub high_limit : most_limit < limit → a ≡ refused 1
  -- So is a pump that could take the bytes pumped above 2 ^ 40.
  pub no_room : 0 < limit → limit ≤ most_limit → most_bytes < before + limit → a ≡ refused 2
  -- Any other pump passes the smaller of its limit and what waits, and the line keeps the rest.
  pub passes : 0 < limit → limit ≤ most_limit → before + limit ≤ most_bytes → a ≡ passed (min limit (length waits)) (drop (min limit (length waits)) waits)

-- `Run h` says that h is the history of a run of a gateway.
module _ {R : Type 0} (model : Model R) (Run : History R → Type 0) where
  -- What the history h of a run says of the port p.
  pub record PortLaw (h : History R) (p : ℕ) : Type 0 where
    -- Messages come in strictly rising number.
    pub came_rises : Rises (came model p h)
    -- Only what came is given, in strictly rising number, so none twice.
    pub given_came : All (Contains (came model p h)) (given p h)
    pub given_rises : Rises (given p h)
    -- What the port lost as each message came: that message, if it met sixteen waiting, and else nothing.
    pub lost : Message → List Message
    pub lost_met : All (λ m. lost m ≡ lost_when (waiting_when lost (came model p h) (given_at model p h m) m) m) (came model p h)
    -- That says of each message whether it was lost: no other account is right.
    pub lost_only : (lost' : Message → List Message) → All (λ m. lost' m ≡ lost_when (waiting_when lost' (came model p h) (given_at model p h m) m) m) (came model p h)
        → All (λ m. lost' m ≡ lost m) (came model p h)
    -- All this was missed: only what came, none twice, and nothing that is given.
    pub missed : List Message
    pub missed_lost : missed ≡ flat_map lost (came model p h)
    pub missed_came : All (Contains (came model p h)) missed
    pub missed_once : Apart missed
    pub given_not_missed : All (λ m. among m.number missed ≡ false) (given p h)
    -- The rest of what came waits, in rising number; never more than sixteen.
    pub waiting : List Message
    pub waiting_rest : waiting ≡ without (without (came model p h) missed) (given p h)
    pub waiting_rises : Rises waiting
    pub waiting_room : length waiting ≤ depth
    -- Each message that came was given, was missed, or waits.
    pub fates : All (λ m. Contains (given p h) m ⊎ (Contains missed m ⊎ Contains waiting m)) (came model p h)
    -- A message was lost exactly if sixteen waited when it came.
    pub missed_full : All (λ m. LostIfFull (lost m) (waiting_when lost (came model p h) (given_at model p h m) m) m) (came model p h)
    -- An open is refused by an open port, and else for what is no sum of kinds.
    pub open_answers : (wanted : ℕ) (a : Answer) → Run (called h (At p (Open wanted)) a)
        → a ≡ when_open (opening model p h) (refused 5) (cond (wantable wanted) done (refused 6))
    -- A take gives the oldest that waits, and says that nothing waits exactly when that is so.
    pub take_answers : (a : Answer) → Run (called h (At p Take) a) → a ≡ when_open (opening model p h) (oldest waiting) (refused 7)
    -- The missed count is of all that was missed.
    pub missed_answers : (a : Answer) → Run (called h (At p Missed) a) → a ≡ when_open (opening model p h) (told (length missed)) (refused 7)
    -- A close tells how many messages it throws away: all that waits.
    pub close_answers : (a : Answer) → Run (called h (At p Close) a) → a ≡ when_open (opening model p h) (told (length waiting)) (refused 7)
