use Rattle.std.proofs.Common.{rules}
use Rattle.hop_cond_br.proofs.Turns.{by_value}
use Rattle.hop_cond_br.proofs.hop_cond_br.Goals as goal

pub returns-in-Some-v-clause-turned : goal.returns-in-Some-v-clause-turned
returns-in-Some-v-clause-turned c = search (by_value, rules)
