-- A port that loses what comes to it when it is full loses each message at most once, and keeps the rest.
use Rattle.std.proofs.Common.{◌≡◌, List, [], ◌∷◌, ◌++◌, sym, ap, ◌∙◌, append-nil, arith}
use Rattle.std.specs.List.{Contains}
use Rattle.std.proofs.lemmas.List.Elements.{All-nil, All-cons, Contains-push, filter-append}
use Rattle.reading.specs.declared.message.Message.{Message}
use Rattle.law.specs.Laws.{Rises, without}
use Rattle.law.proofs.Numbers.{among_itself, among_above, without_none, without_all, parted}
use Rattle.law.proofs.Walk.{base}
use Rattle.law.proofs.Fates.{Fair, without_nothing}

-- the last is lost
without_last : (ws : List Message) (m : Message) → Rises (ws ++ m ∷ []) → ws ≡ without (ws ++ m ∷ []) (m ∷ [])
without_last ws m r =
    sym (filter-append _ ws (m ∷ [])
    ∙ ap (λ xs. xs ++ without (m ∷ []) (m ∷ [])) (without_none ws (m ∷ []) (λ k d l. among_above _ (m ∷ []) ((parted ws (m ∷ []) r).over k d l)))
    ∙ ap (λ xs. ws ++ xs) (without_all (m ∷ []) (m ∷ []) (among_itself (m ∷ []))) ∙ append-nil ws)

pub fair_base : Fair base
fair_base = record {
  rest = λ ws m r. grind (arith, without_nothing (ws ++ m ∷ []), without_last ws m r);
  some = λ ws m. grind (arith, All-nil (Contains (ws ++ m ∷ [])), All-cons (Contains (ws ++ m ∷ [])) m [] (Contains-push ws m) (All-nil _));
  once = λ ws m. grind arith;
}
