use Rattle.sch_core.proofs.programs.ItemDefinitions.{item_is_definition, item_ordered, item_statics, item_nodes, item_constants}
use Rattle.sch_core.proofs.validity.items_are_definitions.Goals as goal

pub returns-clause-sound : goal.returns-clause-sound
returns-clause-sound c = λ globals at xs d h n w. item_is_definition globals at xs d h n w

pub returns-clause-ordered : goal.returns-clause-ordered
returns-clause-ordered c = λ globals at xs d h before n. item_ordered globals at xs d h before n

pub returns-clause-small : goal.returns-clause-small
returns-clause-small c = λ globals at xs d h. (item_statics globals at xs d h, item_nodes globals at xs d h)

pub returns-clause-constants : goal.returns-clause-constants
returns-clause-constants c = λ globals at xs d h g. item_constants globals at xs d h g
