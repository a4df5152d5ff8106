-- The law holds.
use Rattle.std.proofs.Common.{◌≡◌, sym, ap, ◌∙◌, arith}
use Rattle.reading.specs.declared.family.Family.{Ghosts}
use Rattle.reading.specs.Reading.{Model, Laws}
use Rattle.reading.proofs.Counted.{keeps}
use Rattle.law.specs.Calls.{shown_of}
use Rattle.law.specs.Runs.{History, pumped}
use Rattle.law.proofs.Laws.{Reachable, pump_answers, shown_answers, port, no_port, refused_still, missed_still, shown_still}
use Rattle.law.proofs.Alike.{alike}
use Rattle.gateway.specs.declared.gateway.Gateway.{Gateway}
use Rattle.gateway.specs.Standing.{Represents}
use Rattle.gateway.specs.Law.{Run, Same, RunLaw}
use Rattle.gateway.proofs.Running.{follows, state_of, showing_reads}

module _ (F : Type 0) {R : Type 0} (G : Ghosts F R) (model : Model R) (laws : Laws model) where
  real : (h : History R) → Run F G model h → Reachable model (follows model laws) h
  real h run = (state_of run.0 h, run.1.run)

  same : (g g' : Gateway F R G) (h h' : History R) → Represents model g h → Represents model g' h' → state_of g' h' ≡ state_of g h → Same g g'
  same g g' h h' rep rep' e =
      record {
        shows = λ q. showing_reads model laws g' (pumped h') rep'.reads q ∙ ap (λ st. shown_of model st.bytes q) e ∙ sym (showing_reads model laws g (pumped h) rep.reads q);
        slots = ap (λ st. st.slots) e;
      }

  pub law : (h : History R) → Run F G model h → RunLaw F G model h
  law h run =
      let k = keeps model laws in
      let on = follows model laws in
      let g = run.0 in
      let rep = run.1 in
      record {
        reads = λ g₁ rep₁ q. showing_reads model laws g₁ (pumped h) rep₁.reads q;
        shown = λ q s run'. shown_answers model on h q s (real _ run');
        bytes = k.bytes (pumped h);
        short = k.short (pumped h);
        few = omega (arith, rep.reads.pumped, g.reader.few);
        pump = λ limit waits a run'. pump_answers model on h limit waits a (real _ run');
        port = λ p below. port model on (Run F G model) real h run p below;
        no_port = λ p c a above run'. no_port model on h p c a above (real _ run');
        refused_still = λ g₁ g₂ c n rep₁ rep₂. same g₁ g₂ h _ rep₁ rep₂ (refused_still model on h _ _ c n rep₁.run rep₂.run);
        missed_still = λ g₁ g₂ p a rep₁ rep₂. same g₁ g₂ h _ rep₁ rep₂ (missed_still model on h _ _ p a rep₁.run rep₂.run);
        shown_still = λ g₁ g₂ q s rep₁ rep₂. same g₁ g₂ h _ rep₁ rep₂ (shown_still model on h _ _ q s rep₁.run rep₂.run);
        alike = λ p h' run' e. alike model on p rep.run run'.1.run e;
      }
