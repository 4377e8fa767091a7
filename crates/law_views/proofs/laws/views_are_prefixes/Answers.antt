use Rattle.law_views.proofs.Told.{views_are_prefixes, views_grow}
use Rattle.law_views.proofs.laws.views_are_prefixes.Goals as goal

pub returns-clause-fronts : goal.returns-clause-fronts
returns-clause-fronts c = views_are_prefixes

pub returns-clause-grow : goal.returns-clause-grow
returns-clause-grow c = views_grow
