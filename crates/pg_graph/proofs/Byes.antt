-- The loop over the peers that are to be told.
use Rattle.std.proofs.Common.{ℕ, ◌≡◌, List, ◌∷◌, sym, ap, ◌∙◌}
use Rattle.pg_base.specs.declared.id.FileId.{FileId}
use Rattle.pg_edges.specs.declared.edge.Edge.{Edge}
use Rattle.pg_pieces.specs.pg_msg.declared.work.Work.{Work}
use Rattle.pg_pieces.specs.pg_store.declared.store.Store.{Store}
use Rattle.pg_pieces.specs.Done.{Done, idle}
use Rattle.pg_pieces.specs.Intending.{begin_intent}
use Rattle.pg_graph.specs.Leaving.{begin_byes, bye_to}

module _ (file : FileId) (birth : ℕ) where
  -- what is done and what is left come to this
  abbrev pub ByesCome : Store → List Edge → Work → Done → Type 0
  ByesCome s left v r =
      ((begin_byes file birth left (idle s v)).store ≡ r.store) × ((begin_byes file birth left (idle s v)).work ≡ r.work)

  -- one more is told
  pub one_bye : (s t : Store) (v w : Work) (left rest : List Edge) (e : Edge) (r : Done) → left ≡ e ∷ rest
      → t ≡ (begin_intent s (bye_to file birth e) v).store → w ≡ (begin_intent s (bye_to file birth e) v).work
      → ByesCome s left v r → ByesCome t rest w r
  one_bye s t v w left rest e r is store work comes =
      let d = begin_intent s (bye_to file birth e) v in
      let same : begin_byes file birth rest (idle t w) ≡ begin_byes file birth left (idle s v) =
      ap (λ (y : Store). begin_byes file birth rest (idle y w)) store
      ∙ ap (λ (y : Work). begin_byes file birth rest (idle d.store y)) work
      ∙ sym (ap (λ (xs : List Edge). begin_byes file birth xs (idle s v)) is) in
      (ap (λ (x : Done). x.store) same ∙ comes.0, ap (λ (x : Done). x.work) same ∙ comes.1)
