-- From tokens to data, as the code joins them.
pub mod Stack
pub mod StackView
