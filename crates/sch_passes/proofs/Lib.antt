mod BodiesKept
mod BodyOrder
mod Chain
mod Examples
