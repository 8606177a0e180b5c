-- what the arm that takes all other heads says
pub mod Arms
