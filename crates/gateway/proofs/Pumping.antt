-- What a pump passes, take after take.
use Rattle.std.proofs.Common.{◌≡◌, ℕ, ◌+◌, ◌-◌, ◌<◌, ◌≤◌, min, List, ◌++◌, length, take, drop, sym, ap, ◌∙◌, subst, arith, length-drop, drop-drop, take-add}
use Rattle.reading.specs.declared.family.Family.{Ghosts}
use Rattle.reading.specs.Reading.{Model}
use Rattle.reader.specs.Standing.{Ran}
use Rattle.reader.proofs.Feeding.{ran_both}
use Rattle.line.specs.Steps.{Joins}
use Rattle.ports.specs.Ports.{Took}
use Rattle.gateway.specs.declared.gateway.Gateway.{Gateway}
use Rattle.gateway.specs.Passing.{Drawn}

module _ {F R L : Type 0} {G : Ghosts F R} (m : Model R) (waiting : L → List ℕ) (step : L → ℕ → L → Type 0) (limit : ℕ) (g₀ : Gateway F R G) (l₀ : L) where
  -- The first limit - left bytes that waited in the line l₀ were passed, and gateway and line are g and l.
  pub record Going (left : ℕ) (g : Gateway F R G) (l : L) : Type 0 where
    pub within : left ≤ limit
    pub waited : limit - left ≤ length (waiting l₀)
    pub rest : waiting l ≡ drop (limit - left) (waiting l₀)
    pub pumped : g.reader.pumped ≡ g₀.reader.pumped + (limit - left)
    pub ran : Ran m Took g₀.reader g₀.bank (take (limit - left) (waiting l₀)) g.reader g.bank
    pub steps : step l₀ (limit - left) l

  -- All that may come has come.
  pub record Done (left : ℕ) (g : Gateway F R G) (l : L) : Type 0 where
    pub going : Going left g l
    pub all : limit - left ≡ min limit (length (waiting l₀))

  module _ (joins : Joins step) where
    module _ (left : ℕ) (g : Gateway F R G) (l : L) (going : Going left g l) where
      pub going_more : (k : ℕ) (g' : Gateway F R G) (l' : L) → Drawn (waiting l) left k (waiting l') → g'.reader.pumped ≡ g.reader.pumped + k →
          Ran m Took g.reader g.bank (take k (waiting l)) g'.reader g'.bank → step l k l' → Going (left - k) g' l'
      going_more k g' l' drawn grown ran stepped =
          let W = waiting l₀ in
          let d = limit - left in
          let fits = drawn.fits in
          let within = going.within in
          let lw : length (waiting l) ≡ length W - d = ap length going.rest ∙ length-drop d W in
          let e : d + k ≡ limit - (left - k) = omega arith in
          let bytes : take d W ++ take k (waiting l) ≡ take (limit - (left - k)) W = ap (λ x. take d W ++ take k x) going.rest ∙ sym (take-add d k W) ∙ ap (λ n. take n W) e in
          record {
            within = omega arith;
            waited = omega (arith, drawn.waited, going.waited, lw);
            rest = drawn.left ∙ ap (drop k) going.rest ∙ drop-drop k d W ∙ ap (λ n. drop n W) e;
            pumped = omega (arith, going.pumped);
            ran = subst (λ xs. Ran m Took g₀.reader g₀.bank xs g'.reader g'.bank) bytes (ran_both m Took g₀.reader g₀.bank (take d W) g.reader g.bank (take k (waiting l)) g'.reader g'.bank going.ran ran);
            steps = subst (λ n. step l₀ n l') e (joins.joins l₀ l l' d k going.steps stepped);
          }

      pub done_full : left ≤ 0 → Done left g l
      done_full none = record { going = going; all = omega (arith, going.waited) }

      -- The line was asked for more, and gave none.
      pub done_dry : (k : ℕ) (g' : Gateway F R G) (l' : L) → Drawn (waiting l) left k (waiting l') → g'.reader.pumped ≡ g.reader.pumped + k →
          Ran m Took g.reader g.bank (take k (waiting l)) g'.reader g'.bank → step l k l' → k ≡ 0 → 0 < left → Done left g' l'
      done_dry k g' l' drawn grown ran stepped none some =
          let same : left - k ≡ left = omega arith in
          let lw : length (waiting l) ≡ length (waiting l₀) - (limit - left) = ap length going.rest ∙ length-drop (limit - left) (waiting l₀) in
          record {
            going = subst (λ n. Going n g' l') same (going_more k g' l' drawn grown ran stepped);
            all = grind (arith, lw, going.waited, going.within, drawn.some);
          }
