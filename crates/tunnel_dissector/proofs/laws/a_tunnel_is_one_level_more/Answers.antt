use Rattle.tunnel_dissector.proofs.Tunnels.{is_one_level_more, has_few_levels}
use Rattle.tunnel_dissector.proofs.laws.a_tunnel_is_one_level_more.Goals as goal

pub returns-clause-more : goal.returns-clause-more
returns-clause-more c = is_one_level_more

pub returns-clause-few : goal.returns-clause-few
returns-clause-few c = has_few_levels
