-- Each call takes a run one call on.
use Rattle.std.proofs.Common.{◌≡◌, ℕ, ◌+◌, ◌^◌, ◌<◌, ◌≤◌, min, List, [], ◌∷◌, ◌++◌, length, take, drop, sym, ap, ◌∙◌, subst, append-nil, arith, length-append}
use lib.Seq.{drop-append_seam}
use Rattle.reading.specs.declared.family.Family.{Ghosts}
use Rattle.reading.specs.declared.message.Message.{Message}
use Rattle.reading.specs.Reading.{Model, Laws, reading}
use Rattle.reader.specs.Ledgers.{Handed}
use Rattle.reader.specs.Standing.{Stands, Ran}
use Rattle.reader.proofs.Feeding.{long}
use Rattle.law.specs.Calls.{Pump, At, PortCall, Answer, refused, passed, Question, AskCounts, AskLatest, AskRecord, Shown, counted, newest, recorded, shown_of, messages_of, brought, pump_answer}
use Rattle.law.specs.Runs.{History, start, called, questioned, pumped, accepted}
use Rattle.law.specs.Slots.{Slot, published_to, all_published_to, port_answer, port_after, new_ports}
use Rattle.law.specs.States.{State, fresh, Reached, begins, goes, asks}
use Rattle.law.proofs.Follows.{Follows, follows_laws}
use Rattle.law.proofs.Accounts.{agrees}
use Rattle.law.proofs.Laws.{pump_law, still}
use Rattle.ports.specs.declared.bank.Bank.{Bank}
use Rattle.ports.specs.Ports.{slots_of, most_missed, Took}
use Rattle.ports.proofs.Misses.{most_after, most_published}
use Rattle.gateway.specs.declared.gateway.Gateway.{Gateway}
use Rattle.gateway.specs.Standing.{Represents, GoesOn, showing}

-- A bank that was handed messages has them published to its ports.
most_all_published : (ss : List Slot) (ms : List Message) → most_missed (all_published_to ss ms) ≤ most_missed ss + length ms
most_all_published ss [] = omega arith
most_all_published ss (m ∷ ms) =
    let one = most_published ss m in
    let rest = most_all_published (published_to ss m) ms in
    omega (arith, one, rest)

handed_slots : (b : Bank) (ms : List Message) (b' : Bank) → Handed Took b ms b' → most_missed (slots_of b) + length ms < 2 ^ 64 → slots_of b' ≡ all_published_to (slots_of b) ms
handed_slots b [] b' h few = sym (ap slots_of h)
handed_slots b (m ∷ ms) b' h few =
    let first = h.1 (omega arith) in
    let more : most_missed (slots_of h.0) ≤ most_missed (slots_of b) + 1 = subst (λ ss. most_missed ss ≤ most_missed (slots_of b) + 1) (sym first) (most_published (slots_of b) m) in
    handed_slots h.0 ms b' h.2 (omega (arith, more)) ∙ ap (λ ss. all_published_to ss ms) first

-- The state of a run that a gateway is in.
abbrev pub state_of : {F R : Type 0} {G : Ghosts F R} → Gateway F R G → History R → State
state_of g h = record { bytes = pumped h; slots = slots_of g.bank }

-- A call of a port takes the run one call on.
pub goes_port : {F R : Type 0} {G : Ghosts F R} (model : Model R) (g g' : Gateway F R G) (p : ℕ) (c : PortCall) (a : Answer) (h : History R) → Represents model g h →
    a ≡ port_answer (slots_of g.bank) p c → slots_of g'.bank ≡ port_after (slots_of g.bank) p c → g'.reader ≡ g.reader → Represents model g' (called h (At p c) a)
goes_port model g g' p c a h rep answered changed kept =
    record {
      reads = subst (λ r. Stands model r (pumped h)) (sym kept) rep.reads;
      run = subst (λ x. Reached model (state_of g' h) (called h (At p c) x)) (sym answered)
          (subst (λ ss. Reached model (record { bytes = pumped h; slots = ss }) (called h (At p c) (port_answer (slots_of g.bank) p c))) (sym changed) (goes rep.run (At p c)));
    }

-- A question takes the run one question on.
pub goes_asked : {F R : Type 0} {G : Ghosts F R} (model : Model R) (g : Gateway F R G) (q : Question) (s : Shown R) (h : History R) → Represents model g h → s ≡ shown_of model (pumped h) q → Represents model g (questioned h q s)
goes_asked model g q s h rep is =
    record { reads = rep.reads; run = subst (λ x. Reached model (state_of g h) (questioned h q x)) (sym is) (asks rep.run q) }

pub begins_new : {F R : Type 0} {G : Ghosts F R} (model : Model R) (g : Gateway F R G) → Stands model g.reader [] → slots_of g.bank ≡ new_ports → Represents model g start
begins_new model g st new = record { reads = st; run = subst (λ ss. Reached model (record { bytes = []; slots = ss }) start) (sym new) begins }

module _ {R : Type 0} (model : Model R) (laws : Laws model) where
  pub follows : Follows model
  follows = follows_laws model laws

  fresh_length : (bs more : List ℕ) → length (messages_of model (bs ++ more)) ≡ length (messages_of model bs) + length (fresh model bs more)
  fresh_length bs more =
      let grown = follows.grows bs more in
      let new : fresh model bs more ≡ grown.0 = ap (drop (length (messages_of model bs))) grown.1 ∙ drop-append_seam (messages_of model bs) grown.0 in
      ap length grown.1 ∙ length-append (messages_of model bs) grown.0 ∙ ap (λ ms. length (messages_of model bs) + length ms) (sym new)

  -- no port has missed more than was published
  most_run : {st : State} {h : History R} → Reached model st h → most_missed st.slots ≤ length (messages_of model st.bytes)
  most_run begins = omega arith
  most_run (goes {g} {h} r (Pump limit waits)) =
      let more = brought waits (pump_answer (length g.bytes) limit waits) in
      let all = most_all_published g.slots (fresh model g.bytes more) in
      omega (arith, most_run r, all, fresh_length g.bytes more)
  most_run (goes {g} {h} r (At p c)) = most_after g.slots p c (length (messages_of model g.bytes)) (most_run r)
  most_run (asks {g} {h} r q) = most_run r

  module _ {F : Type 0} {G : Ghosts F R} where
    pub goes_pump : (g g' : Gateway F R G) (limit : ℕ) (W rest : List ℕ) (d : ℕ) → 0 < limit → limit ≤ 4096 → g.reader.pumped + limit ≤ 2 ^ 40 → d ≡ min limit (length W) → rest ≡ drop d W →
        Ran model Took g.reader g.bank (take d W) g'.reader g'.bank → GoesOn model g g' (Pump limit W) (passed d rest)
    goes_pump g g' limit W rest d some most room d-is rest-is ran h rep =
        let bs = pumped h in
        let xs = take d W in
        let old = slots_of g.bank in
        let has = rep.reads.pumped in
        let out = ran bs rep.reads in
        let r' = g'.reader in
        let ms = out.1.messages in
        let fresh-is : fresh model bs xs ≡ ms = ap (drop (length (messages_of model bs))) out.1.beyond ∙ drop-append_seam (messages_of model bs) ms in
        let grown : length (messages_of model (bs ++ xs)) ≡ length (messages_of model bs) + length ms = ap length out.1.beyond ∙ length-append (messages_of model bs) ms in
        let missed = most_run rep.run in
        let fits : most_missed old + length ms < 2 ^ 64 = omega (arith, missed, grown, out.0.agrees.messages, r'.told, r'.all, r'.few, r'.fits) in
        let slots-are : all_published_to old (fresh model bs xs) ≡ slots_of g'.bank = ap (all_published_to old) fresh-is ∙ sym (handed_slots g.bank ms g'.bank out.1.handed fits) in
        let passes-is : pump_answer (length bs) limit W ≡ passed d rest = (pump_law (length bs) limit W).passes some most (omega (arith, has)) ∙ ap (λ n. passed n (drop n W)) (sym d-is) ∙ ap (passed d) (sym rest-is) in
        let on = subst (λ a. Reached model (record { bytes = bs ++ brought W a; slots = all_published_to old (fresh model bs (brought W a)) }) (called h (Pump limit W) a)) passes-is (goes rep.run (Pump limit W)) in
        record {
          reads = out.0;
          run = subst (λ ss. Reached model (record { bytes = bs ++ xs; slots = ss }) (called h (Pump limit W) (passed d rest))) slots-are on;
        }

    pub goes_refused : (g : Gateway F R G) (limit : ℕ) (W : List ℕ) (n : ℕ) (h : History R) → Represents model g h → refused n ≡ pump_answer g.reader.pumped limit W → Represents model g (called h (Pump limit W) (refused n))
    goes_refused g limit W n h rep e =
        let bs = pumped h in
        let answer-is : refused n ≡ pump_answer (length bs) limit W = e ∙ ap (λ k. pump_answer k limit W) rep.reads.pumped in
        let stays = still model follows (state_of g h) h (Pump limit W) (agrees model follows rep.run) (ap accepted (sym answer-is)) in
        let on = subst (λ st. Reached model st (called h (Pump limit W) (pump_answer (length bs) limit W))) stays (goes rep.run (Pump limit W)) in
        let there = subst (λ a. Reached model (state_of g h) (called h (Pump limit W) a)) (sym answer-is) on in
        record {
          reads = subst (λ xs. Stands model g.reader xs) (sym (append-nil bs)) rep.reads;
          run = subst (λ xs. Reached model (record { bytes = xs; slots = slots_of g.bank }) (called h (Pump limit W) (refused n))) (sym (append-nil bs)) there;
        }

    -- what a gateway shows is what the reading has
    pub showing_reads : (g : Gateway F R G) (bs : List ℕ) → Stands model g.reader bs → (q : Question) → showing g q ≡ shown_of model bs q
    showing_reads g bs st AskCounts =
        let a = st.agrees in
        let size : g.reader.window.held ≡ length (reading model bs).held = sym (long g.reader.window) ∙ ap length st.held in
        λ i. counted record {
          pumped = st.pumped i;
          accepted = a.accepted i;
          skipped = a.skipped i;
          held = size i;
          whole = a.whole i;
          passed = a.passed i;
          faults = a.faults i;
          messages = a.messages i;
        }
    showing_reads g bs st AskLatest = ap newest st.agrees.latest
    showing_reads g bs st AskRecord = ap recorded st.agrees.made
