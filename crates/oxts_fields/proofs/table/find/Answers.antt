use Rattle.std.proofs.Common.{◌≡◌, ℕ, zero, suc, ◌<◌, List, [], ◌∷◌, Option, Some, None, length, get_or, refl, sym, ◌∙◌, ap, rules, arith}
use Rattle.std.specs.Option.{MatchOption, option_or}
use Rattle.oxts.specs.declared.format.Format.{Format}
use Rattle.oxts_fields.specs.declared.layout.Layout.{Layout}
use Rattle.oxts_fields.specs.declared.table.Run.{Run}
use Rattle.oxts_fields.specs.Table.{layout_in, layout_of, no_run}
use Rattle.oxts_fields.proofs.table.find.Goals as goal

module _ (f : Format) (c n : ℕ) where
  abbrev Gives : List Run → ℕ → Option Layout → Type 0
  Gives runs k r = layout_in f c n (get_or runs k no_run) ≡ r

  -- r is what the first run gives that has the field
  abbrev First : List Run → Option Layout → Type 0
  First runs r =
      MatchOption r ((k : ℕ) → k < length runs → Gives runs k None) (λ l. (i : ℕ) × (i < length runs) × Gives runs i (Some l) × ((k : ℕ) → k < i → Gives runs k None))

  first : (runs : List Run) (r : Option Layout) → First runs r → r ≡ layout_of f c n runs
  first [] None h = refl
  first [] (Some l) h = absurd (omega (arith, h.1))
  first (r ∷ rs) None h = first rs None (λ k lt. h (suc k) (omega arith)) ∙ ap (λ o. option_or o (layout_of f c n rs)) (sym (h 0 (omega arith)))
  first (r ∷ rs) (Some l) (zero, inside, here, before) = ap (λ o. option_or o (layout_of f c n rs)) (sym here)
  first (r ∷ rs) (Some l) (suc i, inside, here, before) =
      first rs (Some l) (i, omega arith, here, λ k lt. before (suc k) (omega arith)) ∙ ap (λ o. option_or o (layout_of f c n rs)) (sym (before 0 (omega arith)))

pub returns : goal.returns
returns c = record { value = first c.args.format c.args.channel c.args.field c.args.runs.now c.find_map.result (search rules) }
