-- An inbox that lost nothing has all that it was handed.
use Rattle.std.proofs.Common.{◌≡◌, IsOk, List, [], ◌∷◌, ◌++◌, vec_items, sym, subst, ap, ◌∙◌, append_assoc}
use Rattle.std.proofs.lemmas.List.{append-nil}
use Rattle.reading.specs.declared.message.Message.{Message}
use Rattle.reader.specs.Ledgers.{Handed}
use Rattle.navlog.specs.declared.inbox.Inbox.{Inbox}
use Rattle.navlog.specs.Pieces.{Took}

pub gathered : (s : Inbox) (ms : List Message) (u : Inbox) → Handed Took s ms u → IsOk u.kept →
    IsOk s.kept × (vec_items u.messages ≡ vec_items s.messages ++ ms)
gathered s [] u h e =
    (subst (λ x. IsOk x.kept) (sym h) e, ap (λ x. vec_items x.messages) (sym h) ∙ sym (append-nil (vec_items s.messages)))
gathered s (m ∷ ms) u h e =
    let later = gathered h.0 ms u h.2 e in
    (h.1.lost later.0, later.1 ∙ ap (λ x. x ++ ms) (h.1.kept later.0) ∙ append_assoc (vec_items s.messages) (m ∷ []) ms)
