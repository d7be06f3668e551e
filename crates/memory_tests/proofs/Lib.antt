mod Leave
