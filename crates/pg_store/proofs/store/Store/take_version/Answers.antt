use Rattle.std.proofs.Common.{◌≡◌, true, sym, ap, ◌∙◌, rules}
use Rattle.pg_names.specs.Names.{NamesValue, raise}
use Rattle.pg_replica.specs.Replicas.{replica_in, replicas_taking, takes_version}
use Rattle.pg_store.specs.declared.store.Store.{Store}
use Rattle.pg_store.specs.Store.{end_covered, is_new_version}
use Rattle.pg_store.proofs.Marked.{marked_then, raised_by, same_names, taking_aside, tested_aside}
use Rattle.pg_store.proofs.Old.{chosen_then, left_if, raised_if, raised_to, seen}
use Rattle.pg_store.proofs.store.Store.take_version.Goals as goal

pub returns-then-news-clause-store : goal.returns-then-news-clause-store
returns-then-news-clause-store c =
    let a = seen c.self.inside in
    let raised : c.raise.new.self ≡ raise a.names c.args.version.head.stamp.time = search rules in
    let new : is_new_version a c.args.file c.args.version ≡ true = sym c.in_ok-news.ensures.news ∙ c.if-news.true in
    rw (← c.self.view_is)
    (c.end_covered.ensures
    ∙ ap (λ (b : Store). end_covered b c.args.file)
    (ap (λ (names : NamesValue). raised_to a c.take_version.new.tags c.take_version.new.self names) raised
    ∙ raised_if a _ _ _ _ (raise a.names c.args.version.head.stamp.time) (is_new_version a c.args.file c.args.version)
    new c.in_ok-news.ensures.tags c.in_ok-news.ensures.replicas)
    ∙ chosen_then (λ (b : Store). end_covered b c.args.file) _ _ (is_new_version a c.args.file c.args.version) new)

pub returns-else-news-clause-store : goal.returns-else-news-clause-store
returns-else-news-clause-store c =
    let a = seen c.self.inside in
    rw (← c.self.view_is)
    (left_if a _ _ _ _ _ (is_new_version a c.args.file c.args.version) (sym c.in_ok-news.ensures.news ∙ c.if-news.false)
    c.in_ok-news.ensures.tags c.in_ok-news.ensures.replicas)

pub invariant_of-self-then-news : goal.invariant_of-self-then-news
invariant_of-self-then-news c =
    let i = c.self.inside in
    let f = c.args.file in
    let o = replica_in i.replicas f in
    marked_then f i.names c.raise.new.self i.replicas c.take_version.new.self i.seekers c.mark.new.self c.mark.ensures
    (raised_by f i.names i.names c.raise.new.self _ c.raise.ensures (same_names f i.names))
    (tested_aside i.replicas (replicas_taking i.replicas f c.args.version i.tags o) c.take_version.new.self f (takes_version o c.args.version)
    c.in_ok-news.ensures.replicas (taking_aside i.replicas f c.args.version i.tags o)) c.self.invariant
