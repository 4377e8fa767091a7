use Rattle.std.proofs.Common.{◌≡◌, List, cond, length, true, ap, subst, sym, ◌∙◌, rules}
use Rattle.pg_edges.specs.declared.key.Key.{Key}
use Rattle.pg_replica.specs.Replicas.{replica_in, replicas_linked, takes_link}
use Rattle.pg_store.specs.declared.store.Store.{Store}
use Rattle.pg_store.specs.Links.{is_new_link, keys}
use Rattle.pg_store.specs.Store.{replica_at, with_drawn}
use Rattle.pg_store.proofs.Marked.{linked_aside, marked_then, same_names, tested_aside}
use Rattle.pg_store.proofs.Old.{drawn_if, seen}
use Rattle.pg_store.proofs.store.Store.put_link.Goals as goal

pub invariant_of-self-2 : goal.invariant_of-self-2
invariant_of-self-2 c =
    let i = c.self.inside in
    let f = c.args.file in
    marked_then f i.names i.names i.replicas c.link.new.self i.seekers c.mark.new.self c.mark.ensures (same_names f i.names)
    (tested_aside i.replicas (replicas_linked i.replicas f c.args.peer c.args.birth c.as_slice.result.now i.tags (replica_in i.replicas f)) c.link.new.self f
    (takes_link (replica_in i.replicas f) c.args.peer c.args.birth) c.in_ok-link.ensures.replicas
    (linked_aside i.replicas f c.args.peer c.args.birth c.as_slice.result.now i.tags (replica_in i.replicas f))) c.self.invariant

pub returns : goal.returns
returns c =
    let a = seen c.self.inside in
    let news = is_new_link a c.args.file c.args.peer c.args.birth in
    let made = λ (ks : List Key). with_drawn a (length ks)
    (replicas_linked a.replicas c.args.file c.args.peer c.args.birth ks a.tags (replica_at a c.args.file)) in
    let new : news ≡ true = subst (λ (b : Store). is_new_link b c.args.file c.args.peer c.args.birth ≡ true) (sym c.self.view_is) c.requires in
    let told : c.as_slice.result.now ≡ keys c.args.self.now c.args.file = search rules in
    rw (← c.self.view_is)
    (drawn_if a _ _ _ _ news c.in_ok-link.ensures.tags c.in_ok-link.ensures.replicas
    ∙ ap (λ t. cond t (made c.as_slice.result.now) a) new
    ∙ ap made (subst (λ (b : Store). c.as_slice.result.now ≡ keys b c.args.file) (sym c.self.view_is) told))
