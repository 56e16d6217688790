pub mod MatrixInputs
