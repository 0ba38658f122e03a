use Rattle.piles.proofs.Advancing.{layers_advance}
use Rattle.piles.proofs.Carried.{piles_lawful, piles_stand}
use Rattle.piles.proofs.FirstFaults.{bursts_steady}
use Rattle.piles.proofs.PileFaults.{piles_first}
use Rattle.piles.proofs.Reading.{read_in_turn, piles_advance}
use Rattle.piles.proofs.Steady.{less_stands, stands_on, piles_steady}
use Rattle.piles.proofs.standing.piles_stand.Goals as goal

pub returns : goal.returns
returns c = record { lawful = piles_lawful; stands = piles_stand; advance = layers_advance; reads = read_in_turn; read_on = piles_advance; less_stands = less_stands; stands_on = stands_on; steady = piles_steady; burst_faults = bursts_steady; pile_faults = piles_first }
