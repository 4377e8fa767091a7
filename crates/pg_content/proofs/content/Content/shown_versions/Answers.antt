use Rattle.std.proofs.Common.{drop, ap, ◌∙◌, arith}
use Rattle.std.proofs.lemmas.List.{take_rest}
use Rattle.pg_content.specs.Content.{ContentValue, bodies_of, shown_bytes}
use Rattle.pg_content.proofs.Bodies.{shown_last, shown_join}
use Rattle.pg_content.proofs.content.Content.shown_versions.Goals as goal

pub returns-in-Last : goal.returns-in-Last
returns-in-Last c =
    let e = c.deref.ensures.value in
    let n = c.saturating_sub.result in
    let inside : ContentValue = record { policy = c.self.inside.policy; heads = c.self.inside.heads.items } in
    let k = c.self.inside.heads.ok.0 in
    ap bodies_of (take_rest c.deref.result.now n) ∙ ap (λ vs. bodies_of (drop n vs)) e
    ∙ shown_last inside n c.self.invariant.order c.in-Last.is (omega (arith, c.len.ensures, c.saturating_sub.ensures)) ∙ ap shown_bytes c.self.view_is

pub returns-in-Join : goal.returns-in-Join
returns-in-Join c =
    let inside : ContentValue = record { policy = c.self.inside.policy; heads = c.self.inside.heads.items } in
    ap bodies_of c.as_slice.ensures.value ∙ shown_join inside c.self.invariant.order c.in-Join.is ∙ ap shown_bytes c.self.view_is
