use Rattle.std.proofs.Common.{IsTrue, ◌↔◌, ◌<◌, Bool, length, sym, subst, ap, ◌∙◌, arith}
use Rattle.std.proofs.lemmas.Bool.Decides.{nat_tests}
use Rattle.pg_content.specs.Content.{ContentValue, is_covered, IsCovered}
use Rattle.pg_content.proofs.Heads.{covered_is, is_covered_by}
use Rattle.pg_content.proofs.Indexes.{covers_is}
use Rattle.pg_content.proofs.content.Content.covers.Goals as goal

pub returns-then-not-is_empty-clause-test : goal.returns-then-not-is_empty-clause-test
returns-then-not-is_empty-clause-test c =
    let heads = c.self.inside.heads.items in
    let some : 0 < length heads = (let e = c.is_empty.ensures in let f = c.if-not-is_empty.true in let k = c.self.inside.heads.ok.0 in grind (arith, nat_tests)) in
    covers_is c.self.inside.index c.in-Some.index heads c.args.self.now.heads (ap (λ (v : ContentValue). v.heads) c.self.view_is) c.args.actor c.args.number c.get.result c.join.result.now
    c.self.invariant.index c.in-Some.is some c.get.ensures.number c.join.ensures

pub returns-then-not-is_empty-clause-covers : goal.returns-then-not-is_empty-clause-covers
returns-then-not-is_empty-clause-covers c =
    let heads = c.self.inside.heads.items in
    let some : 0 < length heads = (let e = c.is_empty.ensures in let f = c.if-not-is_empty.true in let k = c.self.inside.heads.ok.0 in grind (arith, nat_tests)) in
    let P : Bool → Type 0 = λ b. IsTrue b ↔ IsCovered c.args.self.now.heads c.args.actor c.args.number in
    subst P (sym (covers_is c.self.inside.index c.in-Some.index heads c.args.self.now.heads (ap (λ (v : ContentValue). v.heads) c.self.view_is) c.args.actor c.args.number c.get.result c.join.result.now
    c.self.invariant.index c.in-Some.is some c.get.ensures.number c.join.ensures)) (covered_is c.args.self.now.heads c.args.actor c.args.number, is_covered_by c.args.self.now.heads c.args.actor c.args.number)

pub returns-in-None-clause-covers : goal.returns-in-None-clause-covers
returns-in-None-clause-covers c =
    let P : Bool → Type 0 = λ b. IsTrue b ↔ IsCovered c.args.self.now.heads c.args.actor c.args.number in
    subst P (sym (c.is_covered.ensures ∙ ap (λ hs. is_covered hs c.args.actor c.args.number) (c.deref.ensures.value ∙ ap (λ (v : ContentValue). v.heads) c.self.view_is))) (covered_is c.args.self.now.heads c.args.actor c.args.number, is_covered_by c.args.self.now.heads c.args.actor c.args.number)
