use Rattle.std.proofs.Common.{◌≡◌, ◌<◌, List, length, arith, Some, nat_eq, get_or, ap, sym, ◌∙◌}
use Rattle.std.proofs.lemmas.Bool.{ne_eqb, eq-eqb}
use Rattle.pg_edges.specs.declared.edge.Edge.{Edge}
use Rattle.std.proofs.lemmas.List.{get_or_default}
use Rattle.std.specs.Option.{option_eq}
use Rattle.pg_edges.proofs.Lists.{peers-set}
use Rattle.pg_edges.proofs.Edits.{gets_at, no_edge, same_peers_keep}
use Rattle.pg_edges.proofs.Cleaning.{one_birth, tag_nowhere, tag_elsewhere, tag_here, no_ack, no_test, acks_at, ack_keeps, clean_set}
use Rattle.pg_edges.proofs.edges.Edges.ack.Goals as goal

-- ---- the edge names another birth

pub returns-then-index-birth-clause-edges : goal.returns-then-index-birth-clause-edges
returns-then-index-birth-clause-edges c =
    let es = c.args.self.now in
    let x = c.index.result.now in
    let found = gets_at es c.self.inside.edges.items c.deref.result.now c.args.peer c.in-Ok.i x c.self.invariant.by_peer c.self.view_is c.deref.ensures.value c.in-Ok.ensures.found c.index.ensures in
    no_ack es c.args.peer c.args.birth c.args.key c.args.tag
    (tag_elsewhere es c.args.peer c.args.birth c.args.key x (sym found) (ne_eqb x.birth c.args.birth c.if-index-birth.true))

pub returns-then-index-birth-clause-test : goal.returns-then-index-birth-clause-test
returns-then-index-birth-clause-test c =
    let es = c.args.self.now in
    let x = c.index.result.now in
    let found = gets_at es c.self.inside.edges.items c.deref.result.now c.args.peer c.in-Ok.i x c.self.invariant.by_peer c.self.view_is c.deref.ensures.value c.in-Ok.ensures.found c.index.ensures in
    no_test es c.args.peer c.args.birth c.args.key c.args.tag
    (tag_elsewhere es c.args.peer c.args.birth c.args.key x (sym found) (ne_eqb x.birth c.args.birth c.if-index-birth.true))

-- ---- the edge names the birth

pub invariant_of-self : goal.invariant_of-self
invariant_of-self c =
    let items = c.self.inside.edges.items in
    let x = c.index_mut-edge.result.now in
    let keys = c.acknowledge-is_present.new.self in
    let same : x ≡ get_or items c.in-Ok.i x = c.index_mut-edge.ensures.value in
    record {
      by_peer = same_peers_keep items _ c.self.invariant.by_peer
          (peers-set items c.in-Ok.i _ x (ap (λ (e : Edge). e.peer) c.index_mut-edge.ensures.value));
      clean = clean_set items c.self.inside.clean c.in-Ok.i (record { peer = x.peer; birth = x.birth; keys = keys }) c.self.invariant.clean
          (λ d lt none. ack_keeps _ c.args.key x keys c.acknowledge-is_present.ensures.keys
          (ap (λ (e : Edge). e.keys) (same ∙ get_or_default items c.in-Ok.i x d lt) ∙ none));
    }

pub returns-else-index-birth-clause-edges : goal.returns-else-index-birth-clause-edges
returns-else-index-birth-clause-edges c =
    let es = c.args.self.now in
    let items = c.self.inside.edges.items in
    let slice = c.deref.result.now in
    let x = c.index_mut-edge.result.now in
    let lt : c.in-Ok.i < length items = omega (arith, c.in-Ok.ensures.found.below, ap (λ (l : List Edge). length l) c.deref.ensures.value) in
    let found = gets_at es items slice c.args.peer c.in-Ok.i x c.self.invariant.by_peer c.self.view_is c.deref.ensures.value c.in-Ok.ensures.found c.index_mut-edge.ensures.value in
    c.pass_clean.ensures
    ∙ acks_at es items slice c.args.peer c.args.birth c.in-Ok.i c.args.key c.args.tag x c.acknowledge-is_present.new.self
    c.self.invariant.by_peer c.self.view_is c.deref.ensures.value c.in-Ok.ensures.found c.index_mut-edge.ensures.value
    (tag_here es c.args.peer c.args.birth c.args.key x (sym found) (eq-eqb x.birth c.args.birth
    (one_birth items c.in-Ok.i x c.index.result.now c.args.birth c.index_mut-edge.ensures.value c.index.ensures c.if-index-birth.false lt)))
    c.acknowledge-is_present.ensures.keys

pub returns-else-index-birth-clause-test : goal.returns-else-index-birth-clause-test
returns-else-index-birth-clause-test c =
    let es = c.args.self.now in
    let items = c.self.inside.edges.items in
    let x = c.index_mut-edge.result.now in
    let lt : c.in-Ok.i < length items = omega (arith, c.in-Ok.ensures.found.below, ap (λ (l : List Edge). length l) c.deref.ensures.value) in
    let found = gets_at es items c.deref.result.now c.args.peer c.in-Ok.i x c.self.invariant.by_peer c.self.view_is c.deref.ensures.value c.in-Ok.ensures.found c.index_mut-edge.ensures.value in
    c.acknowledge-is_present.ensures.test
    ∙ sym (ap (λ o. option_eq nat_eq o (Some c.args.tag))
    (tag_here es c.args.peer c.args.birth c.args.key x (sym found) (eq-eqb x.birth c.args.birth
    (one_birth items c.in-Ok.i x c.index.result.now c.args.birth c.index_mut-edge.ensures.value c.index.ensures c.if-index-birth.false lt))))

-- ---- there is no edge

pub returns-in-Err-clause-edges : goal.returns-in-Err-clause-edges
returns-in-Err-clause-edges c =
    no_ack c.args.self.now c.args.peer c.args.birth c.args.key c.args.tag
    (tag_nowhere c.args.self.now c.args.peer c.args.birth c.args.key (no_edge c.args.self.now c.self.inside.edges.items c.deref.result.now c.args.peer c.in-Err.field-0 c.self.view_is c.deref.ensures.value c.in-Err.ensures.missing))

pub returns-in-Err-clause-test : goal.returns-in-Err-clause-test
returns-in-Err-clause-test c =
    no_test c.args.self.now c.args.peer c.args.birth c.args.key c.args.tag
    (tag_nowhere c.args.self.now c.args.peer c.args.birth c.args.key (no_edge c.args.self.now c.self.inside.edges.items c.deref.result.now c.args.peer c.in-Err.field-0 c.self.view_is c.deref.ensures.value c.in-Err.ensures.missing))
