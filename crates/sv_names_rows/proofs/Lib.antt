-- What elaboration makes of texts, computed from their trees.
mod Kit
mod Rules
mod Worked
mod Forms
mod Edges
mod Files
mod Cycles
mod OtherKinds
mod Refused
mod Varied
mod Finer
